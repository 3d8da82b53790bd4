use Rattle.std.proofs.Common.{◌≡◌, ℕ, ◌<◌, length, slice_get, slice_index_or, Some}
use Rattle.error_path.specs.declared.search.Reached.{Reached}
use Rattle.error_path.specs.Reaches.{StandsIn}
use Rattle.error_path.specs.Rooms.{nowhere}
use Rattle.error_path.proofs.room.set_firsts.Given as goal

-- a place that is set is one of its variable in the queue, and each variable before this place has one
abbrev pub invariant-loop-place : goal.invariant-loop-place
invariant-loop-place l = record {
  size : length l.firsts ≡ length l.fn.firsts;
  right : (v place : ℕ) → slice_index_or l.firsts v nowhere ≡ place → (place ≡ nowhere → ⊥) → StandsIn l.queue place v;
  whole : (place : ℕ) (r : Reached) → place < l.place → slice_get l.queue place ≡ Some r
      → slice_index_or l.firsts r.at nowhere ≡ nowhere → ⊥;
}
