-- The certificate that lines say.
use Rattle.std.proofs.Common.{◌≡◌, ℕ, zero, suc, ◌*◌, ◌^◌, ◌<◌, ◌≤◌, ◌==◌, ◌&&◌, Bool, true, false, not, nat_lt, List, [], ◌∷◌, ◌++◌, length, map, slice_get, slice_index, slice_set, Option, Some, None, refl, sym, ◌∙◌, ap, subst, arith, cond, inl, inr, ◌⊎◌, ◌↔◌}
use Rattle.std.specs.List.{Contains}
use Rattle.std.specs.List.Sorted.{IsStrictlySortedBy}
use Rattle.std.proofs.lemmas.Bool.{cases_lt, not-true}
use Rattle.std.proofs.lemmas.Bool.Decides.{eqb_tells}
use Rattle.std.proofs.lemmas.Nat.{pow_pos}
use Rattle.std.proofs.lemmas.Nat.Bits.{bit_at_above, bit_at-zero}
use Rattle.std.proofs.lemmas.Option.{get_or_from_slice_get, slice_get_within}
use Rattle.lattice_core.specs.Order.{Order, size}
use Rattle.flow_graph.specs.declared.constraint.Constraint.{Constraint}
use Rattle.flow_graph.specs.System.{System, vars_of, vars_of_link, highest}
use Rattle.closure_check.specs.declared.part.Part.{Part}
use Rattle.closure_check.specs.Parts.{IsPart, AreAscending, AreBelow, has, is_in, is_among, is_below}
use Rattle.closure_check.proofs.BitSets.{bit_of}
use Rattle.closure_check.proofs.Sorted.{before_of, before_to}
use Rattle.certificate_text.specs.declared.putting.SetLine.{SetLine}
use Rattle.certificate_text.specs.Names.{Named, ends_in, ends_of, first_end, second_end, name_of, names_in}
use Rattle.certificate_text.specs.Order.{pair_cmp}
use Rattle.certificate_text.specs.Text.{sets_of, pairs_of}
use Rattle.certificate_text.proofs.EndLemmas.{ends_length, set_length, first_below, second_below}
use Rattle.certificate_text.proofs.Rising.{Among, Rises, among_left, among_right, among_either, among_contained, contained_among, same_rising}
use Rattle.certificate_text.proofs.Written.{Lower, Earlier, never_both, names_are, names_rise, pairs_rise, has_own_name, sorted_rises, written_pair, pair_written}
use Rattle.certificate_reader.specs.Grammar.{all_of, name_behind, sets_fit, SetsFit, PairsFit, HasNames}
use Rattle.certificate_reader.specs.Reader.{AreLines, IsPartOf}
use Rattle.certificate_reader.specs.Making.{var_at, vars_at, IsSaid, IsUnsaid, AreFilled, ArePairsOf, SetsExist, PairsExist}
use Rattle.certificate_reader.proofs.Plain.{IsNamed, named_of, set_from, set_to}
use Rattle.certificate_reader.proofs.Once.{among_there, at_among, of_among, to_among, same_var}

-- a table in which one place was set
set_here : (xs : List ℕ) (u x : ℕ) → u < length xs → slice_index (slice_set xs u x) u ≡ x
set_here [] u x within = absurd (omega (arith, within))
set_here (y ∷ xs) zero x within = refl
set_here (y ∷ xs) (suc u) x within = set_here xs u x (omega (arith, within))

-- setting one place of a list leaves what stands at another
set_other : (xs : List ℕ) (u v x : ℕ) → (u ≡ v → ⊥) → slice_index (slice_set xs u x) v ≡ slice_index xs v
set_other [] u v x apart = refl
set_other (y ∷ xs) zero zero x apart = absurd (apart refl)
set_other (y ∷ xs) zero (suc v) x apart = refl
set_other (y ∷ xs) (suc u) zero x apart = refl
set_other (y ∷ xs) (suc u) (suc v) x apart = set_other xs u v x (λ same. apart (ap suc same))

-- one more line sets the sets of its variable
module _ (sys : System) (sets : List SetLine) (it : SetLine) (first second : List ℕ) (u x y : ℕ)
    (filled : AreFilled sys sets first second)
    (var : var_at sys it.name ≡ u) (within : u < vars_of sys) (one : x ≡ it.first) (two : y ≡ it.second) where
  said_now : (v : ℕ) → u ≡ v → IsSaid sys (sets ++ it ∷ []) (slice_set first u x) (slice_set second u y) v
  said_now v same = record {
    it = it;
    there = contained_among (sets ++ it ∷ []) it (among_right sets (it ∷ []) it (inl refl));
    var_is = var ∙ same;
    first_is = subst (λ (w : ℕ). slice_index (slice_set first u x) w ≡ it.first) same
        (set_here first u x (omega (arith, within, filled.first_size)) ∙ one);
    second_is = subst (λ (w : ℕ). slice_index (slice_set second u y) w ≡ it.second) same
        (set_here second u y (omega (arith, within, filled.second_size)) ∙ two);
  }

  said_before : (v : ℕ) → (u ≡ v → ⊥) → IsSaid sys sets first second v
      → IsSaid sys (sets ++ it ∷ []) (slice_set first u x) (slice_set second u y) v
  said_before v apart said = record {
    it = said.it;
    there = contained_among (sets ++ it ∷ []) said.it
        (among_left sets (it ∷ []) said.it (among_contained sets said.it said.there));
    var_is = said.var_is;
    first_is = set_other first u v x apart ∙ said.first_is;
    second_is = set_other second u v y apart ∙ said.second_is;
  }

  unsaid_still : (v : ℕ) → (u ≡ v → ⊥) → IsUnsaid sys sets first second v
      → IsUnsaid sys (sets ++ it ∷ []) (slice_set first u x) (slice_set second u y) v
  unsaid_still v apart unsaid = record {
    none = λ other there is. elim (among_either sets (it ∷ []) other (among_contained (sets ++ it ∷ []) other there)) [
      | inl before ↦ unsaid.none other (contained_among sets other before) is
      | inr (inl same) ↦ apart (sym var ∙ ap (λ (s : SetLine). var_at sys s.name) (sym same) ∙ is)
      | inr (inr nothing) ↦ nothing
    ];
    first_is = set_other first u v x apart ∙ unsaid.first_is;
    second_is = set_other second u v y apart ∙ unsaid.second_is;
  }

  at_one : (v : ℕ)
      → IsSaid sys (sets ++ it ∷ []) (slice_set first u x) (slice_set second u y) v
      ⊎ IsUnsaid sys (sets ++ it ∷ []) (slice_set first u x) (slice_set second u y) v
  at_one v = elim (eqb_tells u v) [
    | inl same ↦ inl (said_now v same.1)
    | inr apart ↦ elim (filled.at v)
        [ inl said ↦ inl (said_before v apart.1 said) | inr unsaid ↦ inr (unsaid_still v apart.1 unsaid) ]
  ]

  pub fill_more : AreFilled sys (sets ++ it ∷ []) (slice_set first u x) (slice_set second u y)
  fill_more = record {
    first_size = set_length first u x ∙ filled.first_size;
    second_size = set_length second u y ∙ filled.second_size;
    at = at_one;
  }

-- the variable at an end
pub var_there : (sys : System) (end v : ℕ) → slice_get (ends_in sys) end ≡ Some v → var_at sys end ≡ v
var_there sys end v there = get_or_from_slice_get (ends_in sys) end v 0 there

-- an end of a constraint is below the number of variables
below_highest : (cs : List Constraint) (k v : ℕ) → slice_get (ends_of cs) k ≡ Some v → v < highest cs
below_highest [] k v there = absurd cc
below_highest (c ∷ cs) zero v there =
    let same : first_end c.link ≡ v = cc in
    omega (arith, same, first_below c.link (vars_of_link c.link) (omega arith))
below_highest (c ∷ cs) (suc zero) v there =
    let same : second_end c.link ≡ v = cc in
    omega (arith, same, second_below c.link (vars_of_link c.link) (omega arith))
below_highest (c ∷ cs) (suc (suc k)) v there = omega (arith, below_highest cs k v there)

-- pairs of variables that were put in order
pub pairs_found : (sys : System) (pairs numbers sorted found : List (ℕ × ℕ))
    → numbers ≡ map (λ pair. vars_at sys pair) pairs → IsStrictlySortedBy pair_cmp sorted →
    ((p : ℕ × ℕ) → Contains numbers p ↔ Contains sorted p) → found ≡ sorted → ArePairsOf sys pairs found
pairs_found sys pairs numbers sorted found are ascending keeps is =
    subst (λ (ps : List (ℕ × ℕ)). ArePairsOf sys pairs ps) (sym is)
    (record {
      ascending = ascending;
      same = λ p. subst (λ (ps : List (ℕ × ℕ)). Contains ps p ↔ Contains sorted p) are (keeps p);
    })

-- tests of sets, one by one
both_hold : {A : Type 0} → (a b : Bool) → (a && b) ≡ true → (a ≡ true → b ≡ true → A) → A
both_hold true true h then_ = then_ refl refl
both_hold true false h then_ = absurd cc
both_hold false b h then_ = absurd cc

within_all : (all set : ℕ) → nat_lt all set ≡ false → set ≤ all
within_all all set h = grind (arith, h)

record Fits (all : ℕ) (it : SetLine) : Type 0 where
  some : (it.second == 0) ≡ false
  first : it.first ≤ all
  second : it.second ≤ all

-- sets that are found to fit are within all elements, the second not empty
fits_of : (all : ℕ) (it : SetLine) → sets_fit all it.first it.second ≡ true → Fits all it
fits_of all it h = both_hold (not (it.second == 0)) _ h
    (λ some rest. both_hold (not (nat_lt all it.first)) (not (nat_lt all it.second)) rest
    (λ one two. record {
      some = not-true _ some;
      first = within_all all it.first (not-true _ one);
      second = within_all all it.second (not-true _ two);
    }))

-- each of several set lines that fit has sets that fit
each_fits : (all : ℕ) (last : Option ℕ) (sets : List SetLine) → SetsFit all last sets → (it : SetLine) → Among it sets
    → Fits all it
each_fits all last [] fit it there = absurd there
each_fits all last (x ∷ sets) fit it (inl same) = subst (λ (s : SetLine). Fits all s) (sym same) (fits_of all x fit.1)
each_fits all last (x ∷ sets) fit it (inr later) = each_fits all (Some x.name) sets fit.2 it later

-- lines of sets rise by their names
abbrev ByName : SetLine → SetLine → Type 0
ByName x y = x.name < y.name

never_by_name : (x y : SetLine) → ByName x y → ByName y x → ⊥
never_by_name x y one two = omega (arith, one, two)

name_low : (last name : ℕ) → name_behind (Some last) name ≡ true → last < name
name_low last name h = grind (arith, h)

-- each of several set lines that fit behind a name has a higher name
behind_all : (all last : ℕ) (sets : List SetLine) → SetsFit all (Some last) sets → (y : SetLine) → Among y sets
    → last < y.name
behind_all all last [] fit y there = absurd there
behind_all all last (x ∷ sets) fit y (inl same) =
    subst (λ (s : SetLine). last < s.name) (sym same) (name_low last x.name fit.0)
behind_all all last (x ∷ sets) fit y (inr later) =
    omega (arith, name_low last x.name fit.0, behind_all all x.name sets fit.2 y later)

sets_rise : (all : ℕ) (last : Option ℕ) (sets : List SetLine) → SetsFit all last sets → Rises ByName sets
sets_rise all last [] fit = tt
sets_rise all last (x ∷ sets) fit = (behind_all all x.name sets fit.2, sets_rise all (Some x.name) sets fit.2)

-- a pair before one that is before another is before that other
earlier_through : (p q r : ℕ × ℕ) → Earlier p q → Earlier q r → Earlier p r
earlier_through p q r (inl a) (inl b) = inl (omega (arith, a, b))
earlier_through p q r (inl a) (inr b) = inl (omega (arith, a, b.0))
earlier_through p q r (inr a) (inl b) = inl (omega (arith, a.0, b))
earlier_through p q r (inr a) (inr b) = inr (a.0 ∙ b.0, omega (arith, a.1, b.1))

-- each of several pair lines that fit behind a pair comes after that pair
pairs_behind : (p : ℕ × ℕ) (pairs : List (ℕ × ℕ)) → PairsFit (Some p) pairs → (q : ℕ × ℕ) → Among q pairs → Earlier p q
pairs_behind p [] fit q there = absurd there
pairs_behind p (r ∷ pairs) fit q (inl same) = subst (λ (s : ℕ × ℕ). Earlier p s) (sym same) (before_of p r.0 r.1 fit.0)
pairs_behind p (r ∷ pairs) fit q (inr later) =
    earlier_through p r q (before_of p r.0 r.1 fit.0) (pairs_behind r pairs fit.1 q later)

pairs_in_order : (last : Option (ℕ × ℕ)) (pairs : List (ℕ × ℕ)) → PairsFit last pairs → Rises Earlier pairs
pairs_in_order last [] fit = tt
pairs_in_order last (p ∷ pairs) fit = (pairs_behind p pairs fit.1, pairs_in_order (Some p) pairs fit.1)

-- a name has one line
one_line : (sets : List SetLine) → Rises ByName sets → (x y : SetLine) → Among x sets → Among y sets → x.name ≡ y.name
    → x ≡ y
one_line [] rise x y one two same = absurd one
one_line (z ∷ sets) rise x y (inl here) (inl also) same = here ∙ sym also
one_line (z ∷ sets) rise x y (inl here) (inr later) same =
    let low = rise.0 y later in absurd (omega (arith, low, same, ap (λ (s : SetLine). s.name) here))
one_line (z ∷ sets) rise x y (inr later) (inl here) same =
    let low = rise.0 x later in absurd (omega (arith, low, same, ap (λ (s : SetLine). s.name) here))
one_line (z ∷ sets) rise x y (inr one) (inr two) same = one_line sets rise.1 x y one two same

-- the lines that are written rise by their names
written_rise : (part : Part) (names : List Named) → Rises Lower names → Rises ByName (sets_of part names)
written_rise part [] rise = tt
written_rise part (x ∷ names) rise = by_test (slice_index part.second.items x.var == 0) (written_rise part names rise.1)
    (λ y there. (let from = set_from part names y there in
    subst (λ (s : SetLine). x.name < s.name) (sym from.is) (rise.0 from.x from.there)))
  where
    by_test : (b : Bool) → Rises ByName (sets_of part names)
        → ((y : SetLine) → Among y (sets_of part names) → x.name < y.name) →
        Rises ByName (cond b [] (record {
          name = x.name;
          first = slice_index part.first.items x.var;
          second = slice_index part.second.items x.var;
        } ∷ []) ++ sets_of part names)
    by_test true over low = over
    by_test false over low = (low, over)

-- what a list is mapped from
mapped : (sys : System) (pairs : List (ℕ × ℕ)) (q : ℕ × ℕ) → Among q (map (λ pair. vars_at sys pair) pairs)
    → (p : ℕ × ℕ) × Among p pairs × (q ≡ vars_at sys p)
mapped sys [] q there = absurd there
mapped sys (p ∷ pairs) q (inl same) = (p, inl refl, same)
mapped sys (p ∷ pairs) q (inr later) = let deeper = mapped sys pairs q later in (deeper.0, inr deeper.1, deeper.2)

-- a pair of names among others has its variables among theirs
maps_to : (sys : System) (pairs : List (ℕ × ℕ)) (p : ℕ × ℕ) → Among p pairs
    → Among (vars_at sys p) (map (λ pair. vars_at sys pair) pairs)
maps_to sys [] p there = absurd there
maps_to sys (x ∷ pairs) p (inl same) = inl (ap (λ (q : ℕ × ℕ). vars_at sys q) same)
maps_to sys (x ∷ pairs) p (inr later) = inr (maps_to sys pairs p later)

-- pairs each of which comes before all behind it are ascending
rises_ascend : (ps : List (ℕ × ℕ)) → Rises Earlier ps → AreAscending ps
rises_ascend [] rise i j p q low one two = absurd cc
rises_ascend (x ∷ ps) rise i zero p q low one two = absurd (omega (arith, low))
rises_ascend (x ∷ ps) rise zero (suc j) p q low one two =
    let same : x ≡ p = cc in
    subst (λ (y : ℕ × ℕ). is_below y q.0 q.1 ≡ true) same (before_to x q.0 q.1 (rise.0 q (at_among ps j q two)))
rises_ascend (x ∷ ps) rise (suc i) (suc j) p q low one two = rises_ascend ps rise.1 i j p q (omega (arith, low)) one two

-- a set below a power has elements below its exponent
elements_low : (set k e : ℕ) → set < 2 ^ k → has set e ≡ true → e < k
elements_low set k e small h = elim (cases_lt e k) [
  | inl low ↦ low
  | inr high ↦ absurd (omega (arith, bit_of set e h, bit_at_above set k e small high))
]

none_in : (e : ℕ) → has 0 e ≡ true → ⊥
none_in e h = omega (arith, bit_of 0 e h, bit_at-zero e)

no_zero : {A : Type 0} → (n : ℕ) → (n == 0) ≡ false → n ≡ 0 → A
no_zero n some none = let wrong : true ≡ false = subst (λ (m : ℕ). (m == 0) ≡ false) none some in absurd cc

module _ (sys : System) (sets : List SetLine) (pairs : List (ℕ × ℕ)) (lines : AreLines sys sets pairs) where
  set_is_named : (it : SetLine) → Among it sets → IsNamed sys it.name
  set_is_named it there = let at = among_there sets it there in named_of sys it.name (lines.named.sets_are at.0 it at.1)

  pair_is_named : (p : ℕ × ℕ) → Among p pairs → IsNamed sys p.0 × IsNamed sys p.1
  pair_is_named p there =
      let at = among_there pairs p there in
      let are = lines.named.pairs_are at.0 p at.1 in
      (named_of sys p.0 are.0, named_of sys p.1 are.1)

  end_exists : (n : ℕ) → IsNamed sys n → n < 2 * length sys.constraints
  end_exists n named =
      omega (arith, slice_get_within (ends_in sys) n named.var named.end_is, ends_length sys.constraints)

  pub sets_exist : SetsExist sys sets
  sets_exist k it there = end_exists it.name (set_is_named it (at_among sets k it there))

  pub pairs_exist : PairsExist sys pairs
  pairs_exist k p there =
      let named = pair_is_named p (at_among pairs k p there) in
      (end_exists p.0 named.0, end_exists p.1 named.1)

  -- the variable at an end has it as its name
  named_var : (n v : ℕ) → IsNamed sys n → var_at sys n ≡ v → name_of sys v ≡ Some n
  named_var n v named is =
      subst (λ (u : ℕ). name_of sys u ≡ Some n) (sym (var_there sys n named.var named.end_is) ∙ is) named.named

  module _ (part : Part) (filled : AreFilled sys sets part.first.items part.second.items)
      (paired : ArePairsOf sys pairs part.pairs.items) where
    said_named : (v : ℕ) (said : IsSaid sys sets part.first.items part.second.items v)
        → name_of sys v ≡ Some said.it.name
    said_named v said =
        named_var said.it.name v (set_is_named said.it (among_contained sets said.it said.there)) said.var_is

    same_name : {A : Type 0} → (v m n : ℕ) → name_of sys v ≡ Some m → name_of sys v ≡ Some n → (m ≡ n → A) → A
    same_name v m n one two then_ = let same : Some m ≡ Some n = sym one ∙ two in then_ cc

    -- the pair of variables that is there
    record FromPair (u v : ℕ) : Type 0 where
      pair : ℕ × ℕ
      there : Among pair pairs
      from_is : name_of sys u ≡ Some pair.0
      to_is : name_of sys v ≡ Some pair.1

    from_pair : (u v : ℕ) → is_among part.pairs.items u v ≡ true → FromPair u v
    from_pair u v is =
        let held = contained_among part.pairs.items (u, v) (to_among part.pairs.items (u, v) is) in
        let from = mapped sys pairs (u, v)
        (among_contained (map (λ pair. vars_at sys pair) pairs) (u, v) ((paired.same (u, v)).1 held)) in
        let named = pair_is_named from.0 from.1 in
        record {
          pair = from.0;
          there = from.1;
          from_is = named_var from.0.0 u named.0 (sym (ap (λ (q : ℕ × ℕ). q.0) from.2));
          to_is = named_var from.0.1 v named.1 (sym (ap (λ (q : ℕ × ℕ). q.1) from.2));
        }

    to_pair : (p : ℕ × ℕ) → Among p pairs → is_among part.pairs.items (var_at sys p.0) (var_at sys p.1) ≡ true
    to_pair p there =
        of_among part.pairs.items (vars_at sys p)
        (among_contained part.pairs.items (vars_at sys p) ((paired.same (vars_at sys p)).0
        (contained_among (map (λ pair. vars_at sys pair) pairs) (vars_at sys p) (maps_to sys pairs p there))))

    -- the names of the certificate
    nameless_empty : (v : ℕ) → name_of sys v ≡ None → slice_index part.second.items v ≡ 0
    nameless_empty v none = elim (filled.at v) [
      | inl said ↦ (let wrong : Some said.it.name ≡ None = sym (said_named v said) ∙ none in absurd cc)
      | inr unsaid ↦ unsaid.second_is
    ]

    no_first_alone : (v : ℕ) → slice_index part.second.items v ≡ 0 → slice_index part.first.items v ≡ 0
    no_first_alone v none = elim (filled.at v) [
      | inl said ↦ no_zero said.it.second (each_fits lines.all None sets lines.sets_fit said.it
          (among_contained sets said.it said.there)).some (sym said.second_is ∙ none)
      | inr unsaid ↦ unsaid.first_is
    ]

    has_names : HasNames sys part
    has_names = record {
      sets = nameless_empty;
      pairs = λ u v is. (let from = from_pair u v is in (from.pair.0, from.pair.1, from.from_is, from.to_is));
      firsts = no_first_alone;
    }

    -- it is a certificate of a lattice in which its sets fit
    firsts_low : (order : Order) → SetsFit (all_of order) None sets → (v e : ℕ) → is_in part.first.items v e ≡ true
        → e < size order
    firsts_low order fit v e h = elim (filled.at v) [
      | inl said ↦
          let fits = each_fits (all_of order) None sets fit said.it (among_contained sets said.it said.there) in
          let wide = pow_pos (size order) in
          elements_low (slice_index part.first.items v) (size order) e
          (omega (arith, said.first_is, fits.first, wide)) h
      | inr unsaid ↦ absurd (none_in e (subst (λ (set : ℕ). has set e ≡ true) unsaid.first_is h))
    ]

    seconds_low : (order : Order) → SetsFit (all_of order) None sets → (v e : ℕ) → is_in part.second.items v e ≡ true
        → e < size order
    seconds_low order fit v e h = elim (filled.at v) [
      | inl said ↦
          let fits = each_fits (all_of order) None sets fit said.it (among_contained sets said.it said.there) in
          let wide = pow_pos (size order) in
          elements_low (slice_index part.second.items v) (size order) e
          (omega (arith, said.second_is, fits.second, wide)) h
      | inr unsaid ↦ absurd (none_in e (subst (λ (set : ℕ). has set e ≡ true) unsaid.second_is h))
    ]

    pair_below : (u n : ℕ) → name_of sys u ≡ Some n → IsNamed sys n → u < vars_of sys
    pair_below u n is named =
        let same : u ≡ named.var = same_var sys u named.var n is named.named in
        omega (arith, same, below_highest sys.constraints n named.var named.end_is)

    pairs_below : AreBelow (vars_of sys) part.pairs.items
    pairs_below k p there =
        let from = from_pair p.0 p.1 (of_among part.pairs.items p (at_among part.pairs.items k p there)) in
        let named = pair_is_named from.pair from.there in
        (pair_below p.0 from.pair.0 from.from_is named.0, pair_below p.1 from.pair.1 from.to_is named.1)

    is_part : (order : Order) → SetsFit (all_of order) None sets → IsPart sys order part
    is_part order fit = record {
      firsts = record { size_is = filled.first_size; elements = firsts_low order fit };
      seconds = record { size_is = filled.second_size; elements = seconds_low order fit };
      ascending = rises_ascend part.pairs.items (sorted_rises part.pairs.items paired.ascending);
      below = pairs_below;
    }

    -- what is written of it are the lines
    set_was_said : (it : SetLine) → Among it (sets_of part (names_in sys)) → Among it sets
    set_was_said it there =
        let from = set_from part (names_in sys) it there in
        let named = (names_are sys (ends_in sys) 0 from.x from.there).1 in
        elim (filled.at from.x.var) [
          | inl said ↦ same_name from.x.var said.it.name from.x.name (said_named from.x.var said) named
              (λ name.
              let whole : it ≡ said.it =
              from.is ∙ ap (λ (n : ℕ). record {
                name = n;
                first = slice_index part.first.items from.x.var;
                second = slice_index part.second.items from.x.var;
              }) (sym name)
              ∙ ap (λ (set : ℕ).
              record { name = said.it.name; first = set; second = slice_index part.second.items from.x.var })
              said.first_is
              ∙ ap (λ (set : ℕ). record { name = said.it.name; first = said.it.first; second = set }) said.second_is in
              subst (λ (s : SetLine). Among s sets) (sym whole) (among_contained sets said.it said.there))
          | inr unsaid ↦ no_zero (slice_index part.second.items from.x.var) from.some unsaid.second_is
        ]

    said_is_written : (it : SetLine) (v : ℕ) → Among it sets → name_of sys v ≡ Some it.name
        → IsSaid sys sets part.first.items part.second.items v → Among it (sets_of part (names_in sys))
    said_is_written it v there named said = same_name v said.it.name it.name (said_named v said) named
        (λ name.
        let same : said.it ≡ it = one_line sets (sets_rise lines.all None sets lines.sets_fit) said.it it
        (among_contained sets said.it said.there) there name in
        let first : slice_index part.first.items v ≡ it.first = said.first_is ∙ ap (λ (s : SetLine). s.first) same in
        let second : slice_index part.second.items v ≡ it.second =
        said.second_is ∙ ap (λ (s : SetLine). s.second) same in
        let some : (slice_index part.second.items v == 0) ≡ false =
        ap (λ (set : ℕ). set == 0) second ∙ (each_fits lines.all None sets lines.sets_fit it there).some in
        let whole :
        record { name = it.name; first = slice_index part.first.items v; second = slice_index part.second.items v }
        ≡ it =
        ap (λ (set : ℕ). record { name = it.name; first = set; second = slice_index part.second.items v }) first
        ∙ ap (λ (set : ℕ). record { name = it.name; first = it.first; second = set }) second in
        subst (λ (s : SetLine). Among s (sets_of part (names_in sys))) whole
        (set_to part (names_in sys) (record { name = it.name; var = v }) (has_own_name sys v it.name named) some))

    set_is_written : (it : SetLine) → Among it sets → Among it (sets_of part (names_in sys))
    set_is_written it there =
        let named = set_is_named it there in
        elim (filled.at named.var) [
          | inl said ↦ said_is_written it named.var there named.named said
          | inr unsaid ↦
              absurd (unsaid.none it (contained_among sets it there) (var_there sys it.name named.var named.end_is))
        ]

    pair_is_written : (p : ℕ × ℕ) → Among p pairs → Among p (pairs_of part.pairs.items (names_in sys) (names_in sys))
    pair_is_written p there =
        let named = pair_is_named p there in
        pair_written sys part.pairs.items p (record {
          from = var_at sys p.0;
          to = var_at sys p.1;
          paired = to_pair p there;
          from_is = named_var p.0 (var_at sys p.0) named.0 refl;
          to_is = named_var p.1 (var_at sys p.1) named.1 refl;
        })

    pair_was_said : (p : ℕ × ℕ) → Among p (pairs_of part.pairs.items (names_in sys) (names_in sys)) → Among p pairs
    pair_was_said p there =
        let is = written_pair sys part.pairs.items p there in
        let from = from_pair is.from is.to is.paired in
        same_name is.from p.0 from.pair.0 is.from_is from.from_is
        (λ one. same_name is.to p.1 from.pair.1 is.to_is from.to_is
        (λ two. (let whole : p ≡ from.pair = ap (λ (m : ℕ). (m, p.1)) one ∙ ap (λ (n : ℕ). (from.pair.0, n)) two in
        subst (λ (q : ℕ × ℕ). Among q pairs) (sym whole) from.there)))

    sets_written : sets_of part (names_in sys) ≡ sets
    sets_written =
        same_rising ByName never_by_name (sets_of part (names_in sys)) sets
        (written_rise part (names_in sys) (names_rise sys (ends_in sys) 0))
        (sets_rise lines.all None sets lines.sets_fit) set_was_said set_is_written

    pairs_written : pairs_of part.pairs.items (names_in sys) (names_in sys) ≡ pairs
    pairs_written =
        let rise = names_rise sys (ends_in sys) 0 in
        same_rising Earlier never_both (pairs_of part.pairs.items (names_in sys) (names_in sys)) pairs
        (pairs_rise sys part.pairs.items (names_in sys) (names_in sys) rise rise)
        (pairs_in_order None pairs lines.pairs_fit) pair_was_said pair_is_written

    pub part_is : IsPartOf sys sets pairs part
    part_is = record {
      plain = is_part;
      names = has_names;
      written_is = ap (λ (s : List SetLine).
          record { sets = s; pairs = pairs_of part.pairs.items (names_in sys) (names_in sys) }) sets_written
          ∙ ap (λ (p : List (ℕ × ℕ)). record { sets = sets; pairs = p }) pairs_written;
    }
