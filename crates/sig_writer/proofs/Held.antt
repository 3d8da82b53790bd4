-- The external functions of a program are those that the code holds.
use Rattle.std.proofs.Common.{◌≡◌, ◌≤◌, ◌^◌, ℕ, ◌+◌, List, [], ◌∷◌, length, map, unwrap_or, Option, None, Some, refl, sym, ◌∙◌, ap, arith}
use Rattle.std.proofs.lemmas.Option.{slice_get_past}
use Rattle.qual_types.specs.declared.row.VarRow.{VarRow}
use Rattle.qual_types.specs.Skel.{no_skeleton}
use Rattle.qual_types.specs.Rows.{Seen, all_seen, nothing, skel_of}
use Rattle.name_rules.specs.Spellings.{Place}
use Rattle.name_tables.specs.PlaceMap.Values.{number_at}
use Rattle.row_rules.specs.Worlds.{Numbered, skeleton_among}
use Rattle.unit_starts.specs.declared.unit_skeletons.skeletons.Skeletons.{Skeletons}
use Rattle.unit_starts.specs.UnitSkeletons.Found.{number_or_none}
use Rattle.annotate.specs.Texts.{UnitText, bytes_in, unit_in}
use Rattle.sig_writer.specs.Functions.{external_in}
use Rattle.sig_writer.specs.Laws.{ExternalsAreHeld}
use Rattle.sig_writer.specs.Library.{external_at}
use Rattle.sig_writer.specs.Nodes.{root_in, skel_by}
use Rattle.sig_writer.specs.Signatures.{External}

seen_length : (k : ℕ) (rows : List VarRow) → length (all_seen k rows) ≡ length rows
seen_length k [] = refl
seen_length k (r ∷ rows) = let l = seen_length (k + 1) rows in omega (arith, l)

-- a number past the table has no skeleton
past : (rows : List VarRow) (n : ℕ) → length rows ≤ n → skel_of rows n ≡ no_skeleton
past rows n le =
    let l = seen_length 0 rows in
    ap (λ (o : Option Seen). (unwrap_or o nothing).tree) (slice_get_past (all_seen 0 rows) n (omega (arith, l, le)))

module _ (it : Skeletons) (all : List Numbered) (few : length it.vars ≤ 2 ^ 24)
    (found : (p : Place) → skel_of it.vars (root_in it p) ≡ skeleton_among all p) where
  skel_held : (p : Place) → skeleton_among all p ≡ skel_by it (number_at it.starts p)
  skel_held p = by (number_at it.starts p) refl
    where
      by : (n : Option ℕ) → number_at it.starts p ≡ n → skeleton_among all p ≡ skel_by it n
      by None is =
          sym (found p) ∙ ap (λ (o : Option ℕ). skel_of it.vars (number_or_none o)) is
          ∙ past it.vars 4294967295 (omega (arith, few))
      by (Some n) is = sym (found p) ∙ ap (λ (o : Option ℕ). skel_of it.vars (number_or_none o)) is

  all_held : (units : List UnitText) (places : List Place)
      → map (external_in units all) places ≡ map (external_at units it) places
  all_held units [] = refl
  all_held units (p ∷ places) =
      ap (λ (e : External). e ∷ map (external_in units all) places)
      (ap (λ s. record { place = p; name = bytes_in (unit_in units p.0) p.1; skel = s }) (skel_held p))
      ∙ ap (λ (es : List External). external_at units it p ∷ es) (all_held units places)

pub held : ExternalsAreHeld
held units it all places few found = all_held it all few found units places
