-- Whether `__auto_type` stands among words, with one more word at the end.
use Rattle.std.proofs.Common.{◌≡◌, Bool, true, false, refl, ap, ◌∙◌, sym}
use Rattle.std.specs.Prelude.{◌||◌}
use Rattle.qual_base.proofs.Tests.{or_false}
use Rattle.c_tree.specs.Tree.{SpecWords, no_words, more_words, SpecWord}
use Rattle.c_tree.specs.WellFormed.{is_auto, has_auto}
use Rattle.c_specs.specs.Reading.{pushed}

or_through : (test rest last : Bool) → (test || (rest || last)) ≡ ((test || rest) || last)
or_through true rest last = refl
or_through false rest last = refl

-- one more word gives a list `__auto_type` if it is that or the list had it
pub auto_pushed : (ws : SpecWords) (w : SpecWord) → has_auto (pushed ws w) ≡ (has_auto ws || is_auto w)
auto_pushed no_words w = or_false (is_auto w)
auto_pushed (more_words first ws) w =
    ap (λ rest. is_auto first || rest) (auto_pushed ws w) ∙ or_through (is_auto first) (has_auto ws) (is_auto w)
