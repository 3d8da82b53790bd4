use Rattle.std.proofs.Common.{List, [], ◌∷◌, ◌++◌, ◌∙◌, ap, append_assoc, codes}
use Rattle.std.specs.Fmt.{decimal}
use Rattle.std.proofs.lemmas.Result.{on_ok_weaker}
use Rattle.generated_source.proofs.source.put_caller.Goals as goal

-- the line of a function that calls another one twice is written behind what was there
pub returns : goal.returns
returns c =
    on_ok_weaker c.put.result (λ put.
    put ∙ ap (λ (t : List _). t ++ (codes "(x)); }" ++ 10 ∷ []))
    (c.in_ok-put_numbered-3.ensures ∙ ap (λ (t : List _). t ++ codes "(f" ++ decimal c.args.called)
    (c.in_ok-put_numbered-2.ensures
    ∙ ap (λ (t : List _). t ++ codes "(int x) { return f" ++ decimal c.args.called)
    c.in_ok-put_numbered.ensures)) ∙ simp append_assoc)
    c.put.ensures
