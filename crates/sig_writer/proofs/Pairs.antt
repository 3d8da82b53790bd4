-- A test of summaries, whether one leads from a variable to another.
use Rattle.std.proofs.Common.{◌≡◌, ℕ, nat_eq, Bool, true, ◌&&◌, List, refl, subst}
use Rattle.std.specs.List.{list_any, Contains}
use Rattle.std.proofs.lemmas.Bool.{and_from, and_parts, eq-eqb, eqb-true}
use Rattle.match_summary.specs.declared.reason.Summary.{Summary}
use Rattle.match_summary.specs.Summary.{HasPair}
use Rattle.sig_writer.proofs.Elements.{any_of, of_any}

abbrev pub has_pair : List Summary → ℕ → ℕ → Bool
has_pair rows u v = list_any (λ row. nat_eq row.from u && nat_eq row.to v) rows

-- where the test of a pair holds, a summary leads from the one variable to the other
pub pair_of : (rows : List Summary) (u v : ℕ) → has_pair rows u v ≡ true → HasPair rows u v
pair_of rows u v is =
    let found = any_of (λ (row : Summary). nat_eq row.from u && nat_eq row.to v) rows is in
    let row : Summary = found.0 in
    let both = and_parts (nat_eq row.from u) (nat_eq row.to v) found.2 in
    let from_u : Contains rows (record { from = u; to = row.to; why = row.why }) =
    subst (λ (n : ℕ). Contains rows (record { from = n; to = row.to; why = row.why }))
    (eqb-true row.from u both.0) found.1 in (
      row.why,
      subst (λ (n : ℕ). Contains rows (record { from = u; to = n; why = row.why }))
          (eqb-true row.to v both.1) from_u,
    )

-- where a summary leads from one variable to another, the test of this pair holds
pub is_pair : (rows : List Summary) (u v : ℕ) → HasPair rows u v → has_pair rows u v ≡ true
is_pair rows u v h =
    of_any (λ (row : Summary). nat_eq row.from u && nat_eq row.to v) rows (record { from = u; to = v; why = h.0 }) h.1
    (and_from (nat_eq u u) (nat_eq v v) (eq-eqb u u refl) (eq-eqb v v refl))
