-- A text reads as one list of certificates.
use Rattle.std.proofs.Common.{◌≡◌, ℕ, zero, suc, ◌+◌, ◌==◌, Bool, true, false, List, [], ◌∷◌, ◌++◌, length, slice_get, slice_index, Option, Some, None, refl, sym, ◌∙◌, ap, subst, arith, inl, inr}
use Rattle.std.proofs.lemmas.List.{ext_get_or, append-nil}
use Rattle.lattice_core.specs.Order.{Order}
use Rattle.flow_graph.specs.System.{System}
use Rattle.closure_check.specs.declared.part.Part.{Part}
use Rattle.closure_check.specs.Parts.{AreAscending, is_among}
use Rattle.closure_check.proofs.Sorted.{before_of, place_among, among_place}
use Rattle.certificate_text.specs.declared.putting.SetLine.{SetLine}
use Rattle.certificate_text.specs.Names.{name_of, ends_in, names_in}
use Rattle.certificate_text.specs.Text.{Written, written}
use Rattle.certificate_text.proofs.Rising.{Among, Rises, same_rising}
use Rattle.certificate_text.proofs.Written.{Earlier, never_both, names_are, has_own_name, written_pair, pair_written}
use Rattle.certificate_reader.specs.declared.lines.Line.{Line}
use Rattle.certificate_reader.specs.declared.lines.Line.TheVariants.{Certificate, Lattice, Set, Pair, Other}
use Rattle.certificate_reader.specs.Grammar.{set_lines, pair_lines, part_lines, lines_of_parts, HasNames, ArePlain}
use Rattle.certificate_reader.specs.Laws.{AreSame, ReadsOnce}
use Rattle.certificate_reader.proofs.Plain.{end_of_name, set_from, set_to, writtens, read_lines}

-- what lines say: the sets and the pairs in front of the first line of a lattice, and the certificates behind it
record Said : Type 0 where
  sets : List SetLine
  pairs : List (ℕ × ℕ)
  parts : List Written

-- what lines say: sets and pairs in front of the first line of a lattice, and the certificates from there on
abbrev said : List Line → Said
said [] = record { sets = []; pairs = []; parts = [] }
said (Certificate ∷ lines) = said lines
said (Lattice n ∷ lines) = record {
  sets = [];
  pairs = [];
  parts = record { sets = (said lines).sets; pairs = (said lines).pairs } ∷ (said lines).parts;
}
said (Set name first second ∷ lines) =
    record (said lines) { sets = record { name = name; first = first; second = second } ∷ (said lines).sets }
said (Pair from to ∷ lines) = record (said lines) { pairs = (from, to) ∷ (said lines).pairs }
said (Other ∷ lines) = said lines

sets_said : (sets : List SetLine) (lines : List Line)
    → said (set_lines sets lines) ≡ record (said lines) { sets = sets ++ (said lines).sets }
sets_said [] lines = refl
sets_said (it ∷ sets) lines = ap (λ (s : Said). record s { sets = it ∷ s.sets }) (sets_said sets lines)

pairs_said : (pairs : List (ℕ × ℕ)) (lines : List Line)
    → said (pair_lines pairs lines) ≡ record (said lines) { pairs = pairs ++ (said lines).pairs }
pairs_said [] lines = refl
pairs_said (pair ∷ pairs) lines = ap (λ (s : Said). record s { pairs = pair ∷ s.pairs }) (pairs_said pairs lines)

-- the lines of parts say these parts, and nothing in front of them
parts_said : (parts : List Written) (number : ℕ)
    → said (part_lines number parts []) ≡ record { sets = []; pairs = []; parts = parts }
parts_said [] number = refl
parts_said (part ∷ parts) number =
    let rest = part_lines (number + 1) parts [] in
    let deeper : said rest ≡ record { sets = []; pairs = []; parts = parts } = parts_said parts (number + 1) in
    let here : said (set_lines part.sets (pair_lines part.pairs rest))
    ≡ record { sets = part.sets; pairs = part.pairs; parts = parts } =
    sets_said part.sets (pair_lines part.pairs rest)
    ∙ ap (λ (s : Said). record s { sets = part.sets ++ s.sets }) (pairs_said part.pairs rest)
    ∙ ap (λ (s : Said). record { sets = part.sets ++ s.sets; pairs = part.pairs ++ s.pairs; parts = s.parts }) deeper
    ∙ ap (λ (sets : List SetLine). record { sets = sets; pairs = part.pairs ++ []; parts = parts })
    (append-nil part.sets)
    ∙ ap (λ (pairs : List (ℕ × ℕ)). record { sets = part.sets; pairs = pairs; parts = parts })
    (append-nil part.pairs) in
    ap
    (λ (s : Said). record { sets = []; pairs = []; parts = record { sets = s.sets; pairs = s.pairs } ∷ s.parts }) here

-- lines are those of one list of certificates
same_parts : (parts others : List Written) → lines_of_parts parts ≡ lines_of_parts others → parts ≡ others
same_parts parts others same =
    sym (ap (λ (s : Said). s.parts) (parts_said parts 1)) ∙ ap (λ (ls : List Line). (said ls).parts) same
    ∙ ap (λ (s : Said). s.parts) (parts_said others 1)

-- ascending pairs come one before the other
pub among_there : {A : Type 0} → (xs : List A) (x : A) → Among x xs → (k : ℕ) × (slice_get xs k ≡ Some x)
among_there [] x there = absurd there
among_there (y ∷ xs) x (inl same) = (0, ap Some (sym same))
among_there (y ∷ xs) x (inr later) = let deeper = among_there xs x later in (suc deeper.0, deeper.1)

-- in ascending pairs each comes before all behind it
pub ascending_rises : (pairs : List (ℕ × ℕ)) → AreAscending pairs → Rises Earlier pairs
ascending_rises [] up = tt
ascending_rises (p ∷ pairs) up = (
  λ q there. (let k = among_there pairs q there in before_of p q.0 q.1 (up 0 (suc k.0) p q (omega arith) refl k.1)),
  ascending_rises pairs (λ i j q r low one other. up (suc i) (suc j) q r (omega (arith, low)) one other),
)

-- an item at a place of a list is among its items
pub at_among : {A : Type 0} → (xs : List A) (k : ℕ) (x : A) → slice_get xs k ≡ Some x → Among x xs
at_among [] k x there = absurd cc
at_among (y ∷ xs) zero x there = let same : y ≡ x = cc in inl (sym same)
at_among (y ∷ xs) (suc k) x there = inr (at_among xs k x there)

pub of_among : (pairs : List (ℕ × ℕ)) (x : ℕ × ℕ) → Among x pairs → is_among pairs x.0 x.1 ≡ true
of_among pairs x there = let at = among_there pairs x there in among_place pairs at.0 x.0 x.1 at.1

pub to_among : (pairs : List (ℕ × ℕ)) (x : ℕ × ℕ) → is_among pairs x.0 x.1 ≡ true → Among x pairs
to_among pairs x is = let at = place_among pairs x.0 x.1 is in at_among pairs at.0 x at.1

zero_is : (n : ℕ) → (n == 0) ≡ true → n ≡ 0
zero_is n h = grind (arith, h)

module _ (sys : System) where
  pub same_var : (u v n : ℕ) → name_of sys u ≡ Some n → name_of sys v ≡ Some n → u ≡ v
  same_var u v n one other =
      let same : Some u ≡ Some v = sym (end_of_name sys u n one) ∙ end_of_name sys v n other in
      cc

  -- what one certificate has, another with the same text has too
  module _ (part other : Part) (same : written sys part ≡ written sys other) (names : HasNames sys part) where
    pair_too : (x : ℕ × ℕ) → Among x part.pairs.items → Among x other.pairs.items
    pair_too x there =
        let paired = of_among part.pairs.items x there in
        let named = names.pairs x.0 x.1 paired in
        let m = named.0 in
        let n = named.1 in
        let here = pair_written sys part.pairs.items (m, n)
        (record { from = x.0; to = x.1; paired = paired; from_is = named.2; to_is = named.3 }) in
        let there = written_pair sys other.pairs.items (m, n)
        (subst (λ (w : Written). Among {A = ℕ × ℕ} (m, n) w.pairs) same here) in
        let from : there.from ≡ x.0 = same_var there.from x.0 m there.from_is named.2 in
        let to : there.to ≡ x.1 = same_var there.to x.1 n there.to_is named.3 in
        to_among other.pairs.items x
        (subst (λ (v : ℕ). is_among other.pairs.items x.0 v ≡ true) to
        (subst (λ (u : ℕ). is_among other.pairs.items u there.to ≡ true) from there.paired))

    abbrev Agree : ℕ → Type 0
    Agree v =
        (slice_index part.first.items v ≡ slice_index other.first.items v)
        × (slice_index part.second.items v ≡ slice_index other.second.items v)

    set_too : (v n : ℕ) → name_of sys v ≡ Some n → (slice_index part.second.items v == 0) ≡ false → Agree v
    set_too v n is some =
        let here = set_to part (names_in sys) (record { name = n; var = v }) (has_own_name sys v n is) some in
        let there = set_from other (names_in sys) _ (subst (λ (w : Written). Among {A = SetLine}
        (record { name = n; first = slice_index part.first.items v; second = slice_index part.second.items v }) w.sets)
        same here) in
        let named = (names_are sys (ends_in sys) 0 there.x there.there).1 in
        let name : n ≡ there.x.name = ap (λ (s : SetLine). s.name) there.is in
        let var : there.x.var ≡ v = same_var there.x.var v n (named ∙ ap Some (sym name)) is in (
          ap (λ (s : SetLine). s.first) there.is ∙ ap (λ (u : ℕ). slice_index other.first.items u) var,
          ap (λ (s : SetLine). s.second) there.is ∙ ap (λ (u : ℕ). slice_index other.second.items u) var,
        )

  module _ (part other : Part) (same : written sys part ≡ written sys other) (names : HasNames sys part)
      (others : HasNames sys other) where
    both_none : (v : ℕ) → slice_index part.second.items v ≡ 0 → slice_index other.second.items v ≡ 0
        → Agree part other same names v
    both_none v one two = (names.firsts v one ∙ sym (others.firsts v two), one ∙ sym two)

    by_some : (v n : ℕ) → name_of sys v ≡ Some n → (a b : Bool) → (slice_index part.second.items v == 0) ≡ a
        → (slice_index other.second.items v == 0) ≡ b → Agree part other same names v
    by_some v n is false b some also = set_too part other same names v n is some
    by_some v n is true false some also =
        let back = set_too other part (sym same) others v n is also in
        (sym back.0, sym back.1)
    by_some v n is true true some also =
        both_none v (zero_is (slice_index part.second.items v) some) (zero_is (slice_index other.second.items v) also)

    by_name : (v : ℕ) (o : Option ℕ) → name_of sys v ≡ o → Agree part other same names v
    by_name v (Some n) is =
        by_some v n is (slice_index part.second.items v == 0) (slice_index other.second.items v == 0) refl refl
    by_name v None is = both_none v (names.sets v is) (others.sets v is)

    pairs_same : AreAscending part.pairs.items → AreAscending other.pairs.items → part.pairs.items ≡ other.pairs.items
    pairs_same one two =
        same_rising Earlier never_both part.pairs.items other.pairs.items (ascending_rises part.pairs.items one)
        (ascending_rises other.pairs.items two)
        (pair_too part other same names) (pair_too other part (sym same) others)

    firsts_same : length part.first.items ≡ length other.first.items → part.first.items ≡ other.first.items
    firsts_same long =
        ext_get_or 0 part.first.items other.first.items long (λ v low. (by_name v (name_of sys v) refl).0)

    seconds_same : length part.second.items ≡ length other.second.items → part.second.items ≡ other.second.items
    seconds_same long =
        ext_get_or 0 part.second.items other.second.items long (λ v low. (by_name v (name_of sys v) refl).1)

  all_same : (orders : List Order) (parts others : List Part) → ArePlain sys orders parts → ArePlain sys orders others
      → writtens sys parts ≡ writtens sys others → AreSame parts others
  all_same [] [] [] one two same = tt
  all_same [] [] (other ∷ others) one two same = absurd two
  all_same [] (part ∷ parts) others one two same = absurd one
  all_same (order ∷ orders) [] others one two same = absurd one
  all_same (order ∷ orders) (part ∷ parts) [] one two same = absurd two
  all_same (order ∷ orders) (part ∷ parts) (other ∷ others) one two same =
      let first : written sys part ≡ written sys other = cc in
      let rest : writtens sys parts ≡ writtens sys others = cc in (
        pairs_same part other first one.1 two.1 one.0.ascending two.0.ascending,
        firsts_same part other first one.1 two.1 (one.0.firsts.size_is ∙ sym two.0.firsts.size_is),
        seconds_same part other first one.1 two.1 (one.0.seconds.size_is ∙ sym two.0.seconds.size_is),
        all_same orders parts others one.2 two.2 rest,
      )

-- two lists of certificates that one text reads as have the same pairs and sets
pub reads_once : ReadsOnce
reads_once sys orders bytes parts others bounded one two =
    all_same sys orders parts others one.1 two.1
    (same_parts (writtens sys parts) (writtens sys others) (sym (read_lines sys orders bytes parts bounded one)
    ∙ read_lines sys orders bytes others bounded two))
