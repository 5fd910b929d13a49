use Rattle.std.proofs.Common.{refl}
use Rattle.s4_state.proofs.Resting.{stands_rest}
use Rattle.s4_state.proofs.follow.change.Goals as goal

pub returns-in_default-clause-ok : goal.returns-in_default-clause-ok
returns-in_default-clause-ok g c =
    let other = c.in_default in
    stands_rest c.requires.kept c.args.added.now c.requires.sound c.requires.next c.requires.granted c.args.added.now.request refl c.requires.plain (record {
      create = other.not-Create;
      delete = other.not-Delete;
      write = other.not-Write;
      append = other.not-Append;
      truncate = other.not-Truncate;
      attributes = other.not-SetAttr;
      acl = other.not-SetAcl;
      bind = other.not-PCreate;
      unbind = other.not-PDelete;
    })
