use Rattle.std.proofs.Common.{◌++◌, filter, take}
use Rattle.std.specs.Io.KnownBytes.{Appends}
use Rattle.s4_types.specs.Strike.{is_near, stays}
use Rattle.s4_run.specs.Struck.{line_text, lines_text, steps_of}
use Rattle.s4_run.proofs.strike.Script.write_struck.Given as goal

abbrev pub invariant-loop-request : goal.invariant-loop-request
invariant-loop-request g l =
    Appends (g.W.Write.contents l.fn.writer) (g.W.Write.contents l.writer)
    (line_text l.self.window.now ++ lines_text (filter (λ a. stays l.self.who (is_near l.self.who (steps_of l.self.requests.items)) a.step) (take l.request-index l.self.requests.items)))
