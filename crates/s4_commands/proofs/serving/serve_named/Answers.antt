use Rattle.std.proofs.Common.{ℕ, Bool, List, length, ap, subst, string_bytes, ◌∙◌}
use Rattle.std.specs.Io.KnownBytes.{Appends}
use Rattle.s4_types.specs.Log.{Log}
use Rattle.s4_types.specs.declared.record.Record.{Record}
use Rattle.s4_settings.specs.declared.settings.Settings.{Settings}
use Rattle.s4_closing.specs.Closing.{IsClosing}
use Rattle.s4_commands.specs.Serving.{end_lines, listening_line}
use Rattle.s4_commands.proofs.Lines.{appends_both}
use Rattle.s4_commands.proofs.serving.serve_named.Goals as goal

pub returns : goal.returns
returns g c =
    let held = g.W.Write.contents in
    let listening = subst (λ (address : List ℕ). Appends (held c.args.output.now) (held c.tell_listening.new.output) (listening_line address))
    c.as_str.ensures.value c.in_ok-tell_listening.ensures in
    let ends = subst (λ (cells : List Log). Appends (held c.tell_listening.new.output) (held c.tell_end.new.output) (end_lines c.is_some-counts.result cells (length c.as_slice-records.result.now)))
    c.as_slice.ensures.value c.in_ok-tell_end.ensures in
    let as_told = subst (λ (counts : Bool). Appends (held c.tell_listening.new.output) (held c.tell_end.new.output) (end_lines counts c.in_ok-closed.closed.cells.items (length c.as_slice-records.result.now)))
    c.is_some-counts.ensures ends in
    let closed = c.in_ok-closed.closed in
    let same = c.set_up.ensures ∙ c.in_ok-server.ensures.settings in
    let window = ap (λ (s : Settings). s.window) same ∙ c.requires.window in
    record {
      told = record {
        cells = c.in_ok-closed.closed.cells.items;
        records = (length c.as_slice-records.result.now);
        count = (c.in_ok-closed.ensures.count ∙ ap (λ (s : Settings). s.cells) same) ∙ c.requires.cells;
        end = record {
          passes = closed.passes.items;
          history = closed.history.items;
          counted = c.in_ok-closed.ensures.counted;
          closing = subst (λ (w : ℕ). IsClosing w closed.cells.items closed.passes.items closed.history.items) window c.in_ok-closed.ensures.history;
          count = ap (λ (rs : List Record). length rs) c.as_slice-records.ensures.value;
        };
        written = appends_both (held c.args.output.now) (held c.tell_listening.new.output) (held c.tell_end.new.output) _ _ listening as_told;
      };
    }
