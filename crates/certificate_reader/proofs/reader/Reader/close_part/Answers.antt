use Rattle.std.proofs.Common.{ℕ, ◌++◌, ◌∷◌, [], ◌∙◌, ap, Vec, Global}
use Rattle.certificate_text.specs.declared.putting.SetLine.{SetLine}
use Rattle.certificate_reader.specs.Reader.{Held}
use Rattle.certificate_reader.proofs.HeldLemmas.{closed_by}
use Rattle.certificate_reader.proofs.reader.Reader.close_part.Goals as goal

-- the part made of the lines closes the certificate, and no lines are left
pub returns-in-Ok-push-clause-ok : goal.returns-in-Ok-push-clause-ok
returns-in-Ok-push-clause-ok c =
    closed_by c.args.graph.now c.args.self.now c.as_slice.result.now c.as_slice-2.result.now c.in-Ok.part _ _ _
    (c.as_slice.ensures.value ∙ ap (λ (v : Vec SetLine Global). v.items) c.replace-sets.ensures.value
    ∙ ap (λ (h : Held). h.sets) c.self.view_is)
    (c.as_slice-2.ensures.value ∙ ap (λ (v : Vec (ℕ × ℕ) Global). v.items) c.replace-pairs.ensures.value
    ∙ ap (λ (h : Held). h.pairs) c.self.view_is) c.in-Ok.ensures
    (c.in-Ok-push.ensures.items ∙ ap (λ (h : Held). h.parts ++ c.in-Ok.part ∷ []) c.self.view_is)
    (ap (λ (v : Vec SetLine Global). v.items) c.replace-sets.ensures.after ∙ c.new.ensures.items)
    (ap (λ (v : Vec (ℕ × ℕ) Global). v.items) c.replace-pairs.ensures.after ∙ c.new-2.ensures.items)
