use Rattle.std.proofs.Common.{◌≡◌, ℕ, List, Some, length, arith, refl, slice_get, subst, sym}
use Rattle.qual_base.proofs.Lists.{push_last}
use Rattle.error_path.specs.declared.reaches.Found.{Found}
use Rattle.error_path.proofs.reaches.Reaches.keep.Goals as goal

-- the place that is answered, behind all that was kept, is that of what is kept now
pub returns-clause-place : goal.returns-clause-place
returns-clause-place c =
    let old = c.args.self.now.found.items in
    let In : List Found → Type 0 = λ xs. slice_get xs (length old) ≡ Some c.args.found in
    let At : ℕ → Type 0 = λ n. slice_get c.push.new.self.items n ≡ Some c.args.found in
    let size : length old ≡ c.len-place.result = omega arith in
    (c.args.found, subst At size (subst In (sym c.in_ok-push.ensures.items) (push_last old c.args.found)), refl, refl)
