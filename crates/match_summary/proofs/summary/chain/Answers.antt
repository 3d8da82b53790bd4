use Rattle.std.proofs.Common.{◌≡◌, ◌<◌, ℕ, List, [], ◌∷◌, ◌++◌, sym, ◌∙◌, ap, subst}
use Rattle.std.proofs.lemmas.List.{map-append}
use Rattle.match_summary.specs.declared.reason.Reason.{Reason}
use Rattle.match_summary.specs.declared.reason.Reason.TheVariants.{Last}
use Rattle.match_summary.specs.declared.reason.Summary.{Summary}
use Rattle.match_summary.specs.Chained.{AreChained}
use Rattle.match_summary.specs.Starts.{sources}
use Rattle.match_summary.proofs.summary.chain.Goals as goal

sources_push : (rows : List Summary) (row : Summary) → sources (rows ++ row ∷ []) ≡ sources rows ++ row.from ∷ []
sources_push rows row = map-append (λ (r : Summary). r.from) rows (row ∷ [])

pub pop-requires : goal.pop-requires
pop-requires c = subst (λ (n : ℕ). 0 < n) (sym c.push.ensures.count) c.requires

-- a new pair is found by its hash and by its begin once both chains have it
pub returns-in-Ok-clause-ok : goal.returns-in-Ok-clause-ok
returns-in-Ok-clause-ok c = λ rows why found.
    let row : Summary = record { from = c.args.from; to = c.args.to; why = why } in
    let keys : sources rows ++ c.number.result ∷ [] ≡ sources (rows ++ row ∷ []) =
    ap (λ (x : ℕ). sources rows ++ x ∷ []) c.number.ensures ∙ sym (sources_push rows row) in
    record {
      hashed = c.in_ok-push.ensures.ok rows why found.hashed;
      chained = subst (λ (xs : List ℕ). AreChained xs c.push-2.new.self) keys
          (c.in-Ok.ensures.ok (sources rows) found.chained);
    }

-- where the second chain fails, the pair is taken from the first again and all is as before
pub returns-in-Err-clause-err : goal.returns-in-Err-clause-err
returns-in-Err-clause-err c = λ rows found.
    let why : Reason = Last 0 0 in
    record {
      hashed = c.pop.ensures rows why (c.in_ok-push.ensures.ok rows why found.hashed);
      chained = c.in-Err.ensures.err (sources rows) found.chained;
    }
