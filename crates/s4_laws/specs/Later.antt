-- A second way to say what flushes erase: of a value that is past, by the records that come after its end.
use Rattle.std.specs.Prelude.{Bool, ◌&&◌, ◌||◌, List, [], ◌∷◌, fold}
use Rattle.std.specs.List.{list_any}
use Rattle.s4_types.specs.declared.object.ObjectId.{ObjectId}
use Rattle.s4_types.specs.declared.record.Record.{Record}
use Rattle.s4_types.specs.Versions.{Track, Value, versions_after}
use Rattle.s4_types.specs.Erased.{covers}

-- a value of a track as the records after its end leave it
abbrev pub left_by : {V : Type 0} → Bool → ObjectId → List Record → Value V → Value V
left_by is_flushed o later v = record {
  begin = v.begin;
  end = v.end;
  value = v.value;
  is_erased = v.is_erased || (is_flushed && list_any (covers o v.begin v.end) later);
}

-- what the newest value and later ones become
abbrev pub newer_by : {V : Type 0} → Track V → ObjectId → List Record → Value V → List (Value V)
newer_by track o later newest = fold (versions_after track o) (newest ∷ []) later
