use Rattle.std.proofs.Common.{ℕ, List, ◌++◌, Some, Vec, Option, sym, ◌∙◌, ap, subst, codes, append_assoc}
use Rattle.std.specs.Global.{Global}
use Rattle.annotate.specs.Texts.{UnitText, line}
use Rattle.annotate.specs.Scenes.{unit_of}
use Rattle.annotate.specs.Annotated.{annotated_in, items_at}
use Rattle.annotate.specs.Comments.{AreComments, HoldComments}
use Rattle.annotate.proofs.SceneLemmas.{unit_is}
use Rattle.annotate.proofs.annotated.put_annotated.Goals as goal

-- the line `annotated`, and the pieces of the unit with their comments behind it, are the annotated source
pub returns : goal.returns
returns c = record {
  is = λ s shows.
      let lent = c.args.scene.now in
      let listings = c.args.listings.now in
      let old = c.args.out.now.items in
      let unit = unit_of c.in-Some.found in
      let Of : ℕ → Type 0 = λ number. AreComments s number listings c.in_ok-comments.comments.items in
      let Hold : List (Vec ℕ Global) → Type 0 =
      λ comments. HoldComments (λ token. items_at s unit.lexed.unit token listings) comments in
      let hold =
      subst Hold (sym c.deref.ensures.value) (subst Of c.unit.ensures (c.in_ok-comments.ensures.1 s shows)) in
      let text = annotated_in s (Some unit) listings in
      c.in_ok-put_pieces.ensures (λ token. items_at s unit.lexed.unit token listings) hold
      ∙ ap (λ (t : List ℕ). t ++ text) c.in_ok-put.ensures ∙ append_assoc old (line (codes "annotated")) text
      ∙ ap (λ (u : Option UnitText). old ++ (line (codes "annotated") ++ annotated_in s u listings))
      (unit_is lent s shows c.args.unit c.find_unit.result (Some c.in-Some.found) c.in-Some.is c.find_unit.ensures);
}
