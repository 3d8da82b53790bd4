-- Places of a list, chained by a key of each.
use Rattle.std.specs.Prelude.{◌≡◌, ℕ, ◌+◌, ◌<◌, ◌≤◌, List, length, slice_get, get_or, Option, Some, None}
use Rattle.match_summary.specs.declared.chains.Chains.{Chains}

-- one more than a place, and 0 for none
abbrev pub link_of : Option ℕ → ℕ
link_of None = 0
link_of (Some n) = n + 1

-- a link to the last place below a bound that has the key
pub record IsLink (keys : List ℕ) (key bound link : ℕ) : Type 0 where
  pub within : link ≤ bound
  pub there : (n : ℕ) → link ≡ n + 1 → slice_get keys n ≡ Some key
  pub last : (n : ℕ) → link ≤ n → n < bound → slice_get keys n ≡ Some key → ⊥

-- the newest place of each key, and for each place the one before it with the same key
pub record AreChained (keys : List ℕ) (chains : Chains) : Type 0 where
  pub size : length chains.before.items ≡ length keys
  pub newest : (key : ℕ) → IsLink keys key (length keys) (get_or chains.newest.items key 0)
  pub before : (n key : ℕ) → slice_get keys n ≡ Some key → IsLink keys key n (get_or chains.before.items n 0)
