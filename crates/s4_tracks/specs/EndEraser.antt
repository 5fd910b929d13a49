-- How far a walk along the values with one end has come.
use Rattle.std.specs.Prelude.{◌≡◌, ℕ, false, List, take}
use Rattle.std.specs.List.{list_any}
use Rattle.s4_types.specs.declared.version.Version.{Version}
use Rattle.s4_tracks.specs.declared.end_eraser.EndEraser.{EndEraser}
use Rattle.s4_tracks.specs.Chain.{is_erasable}

-- the chain that the walk goes along
abbrev pub chain_of : EndEraser → ℕ
chain_of walk = walk.chain

-- at or after which moment the values begin that it erases, and at which they end
abbrev pub from_of : EndEraser → ℕ
from_of walk = walk.from

abbrev pub end_of : EndEraser → ℕ
end_of walk = walk.end

-- how many values of the track stand before the one that it looks at next
abbrev pub next_of : EndEraser → ℕ
next_of walk = walk.next

-- none of the values behind the walk is yet to be erased, and none that ended earlier
pub record HasPassed (walk : EndEraser) (vs : List Version) : Type 0 where
  pub passed : list_any (is_erasable walk.from walk.end) (take walk.next vs) ≡ false

-- the walk goes on along the same track, over the values with the same end
pub record SameSpan (old new : EndEraser) : Type 0 where
  pub chain : new.chain ≡ old.chain
  pub from : new.from ≡ old.from
  pub end : new.end ≡ old.end
