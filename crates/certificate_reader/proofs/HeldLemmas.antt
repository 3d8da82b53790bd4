-- What a reader keeps true from line to line.
use Rattle.std.proofs.Common.{◌≡◌, ℕ, zero, suc, ◌+◌, ◌-◌, ◌^◌, ◌<◌, ◌≤◌, ◌==◌, ◌&&◌, Bool, true, false, nat_lt, List, [], ◌∷◌, ◌++◌, length, map, slice_get, slice_index, Option, Some, None, refl, sym, ◌∙◌, ap, subst, arith, cond, inl, inr, ◌⊎◌, append_assoc, append-nil, length-append, codes, Result, Ok, Err, IfOk, OnOk}
use Rattle.std.proofs.lemmas.List.{nil_from_length}
use Rattle.qual_base.proofs.Tests.{below_is}
use Rattle.lattice_core.specs.Order.{Order}
use Rattle.flow_graph.specs.System.{System, most_constraints}
use Rattle.closure_check.specs.declared.part.Part.{Part}
use Rattle.certificate_text.specs.declared.putting.SetLine.{SetLine}
use Rattle.certificate_text.specs.Text.{Written, line, set_text, sets_text, pair_text, pairs_text, lattice_text, part_text, parts_text, written, certificate_text}
use Rattle.certificate_reader.specs.declared.lines.Line.{Line}
use Rattle.certificate_reader.specs.declared.lines.Line.TheVariants.{Certificate, Lattice, Set, Pair, Other}
use Rattle.certificate_reader.specs.declared.section.Section.{Section}
use Rattle.certificate_reader.specs.declared.section.Section.TheVariants.{Start, Opened, InSets, InPairs}
use Rattle.certificate_reader.specs.declared.section.CertFault.{CertFault}
use Rattle.certificate_reader.specs.declared.section.CertFault.TheVariants.{Grammar, NoSuchVariable, NoMemory}
use Rattle.certificate_reader.specs.Lines.{lines_of}
use Rattle.certificate_reader.specs.Fronts.{BeginsLine}
use Rattle.certificate_reader.specs.Grammar.{name_behind, pair_behind, sets_fit, SetsFit, PairsFit, is_name, is_known, AreNamed, alls_of, ArePlain}
use Rattle.certificate_reader.specs.Reader.{next, may_end, fault_behind, fault_from, AreLines, IsPartOf, Held, Closed, Closes, Keeps, Takes, FailsAt, IsMade, AreMade, IsReadAs}
use Rattle.certificate_reader.proofs.Bytes.{first_part, lines_of-parts}
use Rattle.certificate_reader.proofs.Shapes.{both_true}
use Rattle.certificate_reader.proofs.Plain.{small_name}
use Rattle.certificate_reader.proofs.Spelled.{lattice_bytes, set_bytes, pair_bytes, IsSmallLine, IsSpelled, spelled}

-- the name of the last line of sets, and the last pair
abbrev pub last_name : Option ℕ → List SetLine → Option ℕ
last_name last [] = last
last_name last (it ∷ sets) = last_name (Some it.name) sets

abbrev pub last_pair : Option (ℕ × ℕ) → List (ℕ × ℕ) → Option (ℕ × ℕ)
last_pair last [] = last
last_pair last (pair ∷ pairs) = last_pair (Some pair) pairs

name_last : (last : Option ℕ) (sets : List SetLine) (it : SetLine) → last_name last (sets ++ it ∷ []) ≡ Some it.name
name_last last [] it = refl
name_last last (x ∷ sets) it = name_last (Some x.name) sets it

pair_last : (last : Option (ℕ × ℕ)) (pairs : List (ℕ × ℕ)) (pair : ℕ × ℕ)
    → last_pair last (pairs ++ pair ∷ []) ≡ Some pair
pair_last last [] pair = refl
pair_last last (x ∷ pairs) pair = pair_last (Some x) pairs pair

-- one more line of sets, and one more pair
sets_fit_more : (all : ℕ) (last : Option ℕ) (sets : List SetLine) (it : SetLine) → SetsFit all last sets
    → name_behind (last_name last sets) it.name ≡ true →
    sets_fit all it.first it.second ≡ true → SetsFit all last (sets ++ it ∷ [])
sets_fit_more all last [] it fit later fits = (later, fits, tt)
sets_fit_more all last (x ∷ sets) it fit later fits =
    (fit.0, fit.1, sets_fit_more all (Some x.name) sets it fit.2 later fits)

pairs_fit_more : (last : Option (ℕ × ℕ)) (pairs : List (ℕ × ℕ)) (pair : ℕ × ℕ) → PairsFit last pairs
    → pair_behind (last_pair last pairs) pair ≡ true → PairsFit last (pairs ++ pair ∷ [])
pairs_fit_more last [] pair fit later = (later, tt)
pairs_fit_more last (x ∷ pairs) pair fit later = (fit.0, pairs_fit_more (Some x) pairs pair fit.1 later)

-- what is so of all and of one more
all_more : {A : Type 0} → (P : A → Type 0) (xs : List A) (y : A) → ((k : ℕ) (x : A) → slice_get xs k ≡ Some x → P x)
    → P y → (k : ℕ) (x : A) → slice_get (xs ++ y ∷ []) k ≡ Some x → P x
all_more P [] y all one zero x there = let same : y ≡ x = cc in subst P same one
all_more P [] y all one (suc k) x there = absurd cc
all_more P (z ∷ xs) y all one zero x there = all 0 x there
all_more P (z ∷ xs) y all one (suc k) x there = all_more P xs y (λ j w is. all (suc j) w is) one k x there

-- the texts of one more
sets_more : (sets : List SetLine) (it : SetLine) → sets_text (sets ++ it ∷ []) ≡ sets_text sets ++ set_text it
sets_more [] it = append-nil (set_text it)
sets_more (x ∷ sets) it =
    ap (λ (t : List ℕ). set_text x ++ t) (sets_more sets it)
    ∙ sym (append_assoc (set_text x) (sets_text sets) (set_text it))

-- one more pair adds its text behind that of the others
pairs_more : (pairs : List (ℕ × ℕ)) (pair : ℕ × ℕ)
    → pairs_text (pairs ++ pair ∷ []) ≡ pairs_text pairs ++ pair_text pair
pairs_more [] pair = append-nil (pair_text pair)
pairs_more (x ∷ pairs) pair =
    ap (λ (t : List ℕ). pair_text x ++ t) (pairs_more pairs pair)
    ∙ sym (append_assoc (pair_text x) (pairs_text pairs) (pair_text pair))

set_joined : (c l s t : List ℕ) → c ++ (l ++ (s ++ t) ++ []) ≡ c ++ (l ++ s ++ []) ++ t
set_joined c l s t = simp (append_assoc, append-nil)

pair_joined : (c l s q t : List ℕ) → c ++ (l ++ s ++ (q ++ t)) ≡ c ++ (l ++ s ++ q) ++ t
pair_joined c l s q t = simp append_assoc

lattice_joined : (c l : List ℕ) → c ++ (l ++ [] ++ []) ≡ c ++ l
lattice_joined c l = simp append-nil

line_joined : (t x rest : List ℕ) → t ++ (x ++ 10 ∷ rest) ≡ t ++ (x ++ 10 ∷ []) ++ rest
line_joined t x rest =
    ap (λ (y : List ℕ). t ++ y) (sym (append_assoc x (10 ∷ []) rest)) ∙ sym (append_assoc t (x ++ 10 ∷ []) rest)

module _ (sys : System) where
  none_named : AreNamed sys [] []
  none_named = record { sets_are = λ k it there. absurd cc; pairs_are = λ k pair there. absurd cc }

  parts_more : (parts : List Part) (part : Part) (k : ℕ) →
      parts_text k (map (λ p. written sys p) (parts ++ part ∷ [])) ≡ parts_text k (map (λ p. written sys p) parts)
      ++ part_text (k + length parts) (written sys part)
  parts_more [] part k =
      let same : k ≡ k + 0 = omega arith in
      append-nil (part_text k (written sys part)) ∙ ap (λ (j : ℕ). part_text j (written sys part)) same
  parts_more (x ∷ parts) part k =
      let same : k + 1 + length parts ≡ k + suc (length parts) = omega arith in
      ap (λ (t : List ℕ). part_text k (written sys x) ++ t) (parts_more parts part (k + 1))
      ∙ sym (append_assoc (part_text k (written sys x)) (parts_text (k + 1) (map (λ p. written sys p) parts))
      (part_text (k + 1 + length parts) (written sys part)))
      ∙ ap (λ (j : ℕ). part_text k (written sys x) ++ parts_text (k + 1) (map (λ p. written sys p) parts)
      ++ part_text j (written sys part)) same

  certificate_more : (parts : List Part) (part : Part) (k : ℕ) → k ≡ length parts + 1 →
      certificate_text sys (parts ++ part ∷ []) ≡ certificate_text sys parts ++ part_text k (written sys part)
  certificate_more parts part k is =
      let same : 1 + length parts ≡ k = omega (arith, is) in
      ap (λ (t : List ℕ). line (codes "certificate") ++ t) (parts_more parts part 1)
      ∙ sym (append_assoc (line (codes "certificate")) (parts_text 1 (map (λ p. written sys p) parts))
      (part_text (1 + length parts) (written sys part)))
      ∙ ap (λ (j : ℕ). certificate_text sys parts ++ part_text j (written sys part)) same

  made_more : (alls : List ℕ) (parts : List Part) (part : Part) → AreMade sys alls parts → length parts < length alls
      → IsMade sys (slice_index alls (length parts)) part →
      AreMade sys alls (parts ++ part ∷ [])
  made_more [] [] part made low one = absurd (omega (arith, low))
  made_more [] (x ∷ parts) part made low one = absurd made
  made_more (all ∷ alls) [] part made low one = (one, tt)
  made_more (all ∷ alls) (x ∷ parts) part made low one =
      (made.0, made_more alls parts part made.1 (omega (arith, low)) one)

  -- the text of what is held
  abbrev pub open_text : ℕ → List Part → List SetLine → List (ℕ × ℕ) → List ℕ
  open_text k parts sets pairs = certificate_text sys parts ++ part_text k (record { sets = sets; pairs = pairs })

  abbrev pub held_text : Section → List Part → List SetLine → List (ℕ × ℕ) → List ℕ
  held_text Start parts sets pairs = []
  held_text Opened parts sets pairs = certificate_text sys parts
  held_text (InSets k last) parts sets pairs = open_text k parts sets pairs
  held_text (InPairs k u v) parts sets pairs = open_text k parts sets pairs

  module _ (alls : List ℕ) where
    -- lattice k is being read
    pub record IsOpen (k : ℕ) (parts : List Part) (sets : List SetLine) (pairs : List (ℕ × ℕ)) : Type 0 where
      pub made : AreMade sys alls parts
      pub number : k ≡ length parts + 1
      pub within : k ≤ length alls
      pub sets_fit : SetsFit (slice_index alls (k - 1)) None sets
      pub pairs_fit : PairsFit None pairs
      pub named : AreNamed sys sets pairs

    abbrev pub IsHeld : Section → List Part → List SetLine → List (ℕ × ℕ) → Type 0
    IsHeld Start parts sets pairs = (parts ≡ []) × (sets ≡ []) × (pairs ≡ [])
    IsHeld Opened parts sets pairs = (parts ≡ []) × (sets ≡ []) × (pairs ≡ [])
    IsHeld (InSets k last) parts sets pairs = IsOpen k parts sets pairs × (last ≡ last_name None sets) × (pairs ≡ [])
    IsHeld (InPairs k u v) parts sets pairs = IsOpen k parts sets pairs × (Some (u, v) ≡ last_pair None pairs)

    nothing_held : (sets : List SetLine) (pairs : List (ℕ × ℕ)) → sets ≡ [] → pairs ≡ [] → AreLines sys sets pairs
    nothing_held sets pairs one two =
        rw (one, two) (record { all = 0; sets_fit = tt; pairs_fit = tt; named = none_named })

    open_lines : (k : ℕ) (parts : List Part) (sets : List SetLine) (pairs : List (ℕ × ℕ)) → IsOpen k parts sets pairs
        → AreLines sys sets pairs
    open_lines k parts sets pairs open_ = record {
      all = slice_index alls (k - 1);
      sets_fit = open_.sets_fit;
      pairs_fit = open_.pairs_fit;
      named = open_.named;
    }

    pub held_lines : (section : Section) (parts : List Part) (sets : List SetLine) (pairs : List (ℕ × ℕ))
        → IsHeld section parts sets pairs → AreLines sys sets pairs
    held_lines Start parts sets pairs held = nothing_held sets pairs held.1 held.2
    held_lines Opened parts sets pairs held = nothing_held sets pairs held.1 held.2
    held_lines (InSets k last) parts sets pairs held = open_lines k parts sets pairs held.0
    held_lines (InPairs k u v) parts sets pairs held = open_lines k parts sets pairs held.0

    -- what one more line leads to
    record Goes (to : Section) (parts : List Part) (sets : List SetLine) (pairs : List (ℕ × ℕ))
        (text bytes : List ℕ) : Type 0 where
      held : IsHeld to parts sets pairs
      text_is : held_text to parts sets pairs ≡ text ++ line bytes

    begins : (k : ℕ) (parts : List Part) (bytes : List ℕ) → AreMade sys alls parts → k ≡ length parts + 1
        → k ≤ length alls → bytes ≡ lattice_bytes k →
        Goes (InSets k None) parts [] [] (certificate_text sys parts) bytes
    begins k parts bytes made number within is = record {
      held = (
        record { made = made; number = number; within = within; sets_fit = tt; pairs_fit = tt; named = none_named },
        refl,
        refl,
      );
      text_is = lattice_joined (certificate_text sys parts) (lattice_text k)
          ∙ ap (λ (b : List ℕ). certificate_text sys parts ++ line b) (sym is);
    }

    set_goes : (k : ℕ) (last : Option ℕ) (parts : List Part) (sets : List SetLine) (it : SetLine) (bytes : List ℕ)
        → IsOpen k parts sets [] → last ≡ last_name None sets →
        name_behind last it.name ≡ true → sets_fit (slice_index alls (k - 1)) it.first it.second ≡ true
        → is_name sys it.name ≡ true → bytes ≡ set_bytes it →
        Goes (InSets k (Some it.name)) parts (sets ++ it ∷ []) [] (open_text k parts sets []) bytes
    set_goes k last parts sets it bytes open_ was later fits named is = record {
      held = (
        record {
          made = open_.made;
          number = open_.number;
          within = open_.within;
          sets_fit = sets_fit_more (slice_index alls (k - 1)) None sets it open_.sets_fit
              (subst (λ (o : Option ℕ). name_behind o it.name ≡ true) was later) fits;
          pairs_fit = tt;
          named = record {
            sets_are = all_more (λ (x : SetLine). is_name sys x.name ≡ true) sets it open_.named.sets_are named;
            pairs_are = λ j pair there. absurd cc;
          };
        },
        sym (name_last None sets it),
        refl,
      );
      text_is = ap (λ (t : List ℕ). certificate_text sys parts ++ (lattice_text k ++ t ++ [])) (sets_more sets it)
          ∙ set_joined (certificate_text sys parts) (lattice_text k) (sets_text sets) (set_text it)
          ∙ ap (λ (b : List ℕ). open_text k parts sets [] ++ line b) (sym is);
    }

    pair_goes : (k : ℕ) (parts : List Part) (sets : List SetLine) (pairs : List (ℕ × ℕ)) (pair : ℕ × ℕ) (bytes : List ℕ)
        → IsOpen k parts sets pairs →
        pair_behind (last_pair None pairs) pair ≡ true → is_name sys pair.0 ≡ true → is_name sys pair.1 ≡ true
        → bytes ≡ pair_bytes pair →
        Goes (InPairs k pair.0 pair.1) parts sets (pairs ++ pair ∷ []) (open_text k parts sets pairs) bytes
    pair_goes k parts sets pairs pair bytes open_ later one two is = record {
      held = (
        record {
          made = open_.made;
          number = open_.number;
          within = open_.within;
          sets_fit = open_.sets_fit;
          pairs_fit = pairs_fit_more None pairs pair open_.pairs_fit later;
          named = record {
            sets_are = open_.named.sets_are;
            pairs_are = all_more (λ (p : ℕ × ℕ). (is_name sys p.0 ≡ true) × (is_name sys p.1 ≡ true)) pairs pair
                open_.named.pairs_are (one, two);
          };
        },
        sym (pair_last None pairs pair),
      );
      text_is = ap (λ (t : List ℕ). certificate_text sys parts ++ (lattice_text k ++ sets_text sets ++ t))
          (pairs_more pairs pair)
          ∙ pair_joined (certificate_text sys parts) (lattice_text k) (sets_text sets) (pairs_text pairs)
          (pair_text pair)
          ∙ ap (λ (b : List ℕ). open_text k parts sets pairs ++ line b) (sym is);
    }

    -- a certificate that ends
    pub record Ends (k : ℕ) (parts : List Part) (text : List ℕ) : Type 0 where
      pub made : AreMade sys alls parts
      pub many : length parts ≡ k
      pub text_is : certificate_text sys parts ≡ text

    ends : (k : ℕ) (old : Held) (parts : List Part) (sets : List SetLine) (pairs : List (ℕ × ℕ))
        → IsOpen k old.parts old.sets old.pairs →
        Closed sys old parts sets pairs → Ends k parts (open_text k old.parts old.sets old.pairs)
    ends k old parts sets pairs open_ closed =
        let less : k - 1 ≡ length old.parts = omega (arith, open_.number) in
        let long = length-append old.parts (closed.part ∷ []) in
        let one : IsMade sys (slice_index alls (length old.parts)) closed.part = (
          λ order same. closed.is.plain order
              (subst (λ (all : ℕ). SetsFit all None old.sets)
              (ap (λ (j : ℕ). slice_index alls j) less ∙ same) open_.sets_fit),
          closed.is.names,
        ) in
        let now : Ends k (old.parts ++ closed.part ∷ []) (open_text k old.parts old.sets old.pairs) = record {
          made = made_more alls old.parts closed.part open_.made (omega (arith, open_.number, open_.within)) one;
          many = omega (arith, long, open_.number);
          text_is = certificate_more old.parts closed.part k open_.number
              ∙ ap (λ (w : Written). certificate_text sys old.parts ++ part_text k w) closed.is.written_is;
        } in
        subst (λ (ps : List Part). Ends k ps (open_text k old.parts old.sets old.pairs)) (sym closed.parts_are) now

    ends_and_begins : (k n : ℕ) (old : Held) (parts : List Part) (sets : List SetLine) (pairs : List (ℕ × ℕ))
        (bytes : List ℕ)
        → IsOpen k old.parts old.sets old.pairs →
        Closed sys old parts sets pairs → n ≡ k + 1 → k < length alls → bytes ≡ lattice_bytes n →
        Goes (InSets n None) parts sets pairs (open_text k old.parts old.sets old.pairs) bytes
    ends_and_begins k n old parts sets pairs bytes open_ closed same low is =
        let end = ends k old parts sets pairs open_ closed in
        rw (closed.sets_are, closed.pairs_are)
        (subst (λ (t : List ℕ). Goes (InSets n None) parts [] [] t bytes) end.text_is
        (begins n parts bytes end.made (omega (arith, same, end.many)) (omega (arith, same, low)) is))

    -- a section that is given by a test
    by_test : {A : Type 0} → (section to : Section) (b : Bool) → cond b (Some section) None ≡ Some to
        → (b ≡ true → section ≡ to → A) → A
    by_test section to true h then_ = then_ refl cc
    by_test section to false h then_ = absurd cc

    same_number : (n k : ℕ) → (n == k) ≡ true → n ≡ k
    same_number n k h = grind (arith, h)

    by_lattice : {A : Type 0} → (k n : ℕ) (to : Section)
        → cond ((n == k + 1) && nat_lt k (length alls)) (Some (InSets n None)) None ≡ Some to →
        (n ≡ k + 1 → k < length alls → InSets n None ≡ to → A) → A
    by_lattice k n to h then_ = by_test (InSets n None) to ((n == k + 1) && nat_lt k (length alls)) h
        (λ test is. both_true (n == k + 1) (nat_lt k (length alls)) test
        (λ same low. then_ (same_number n (k + 1) same) (below_is k (length alls) low) is))

    -- one more line, of each kind that may stand in a section
    goes : (section to : Section) (kind : Line) (bytes : List ℕ) (ps : List Part) (ss : List SetLine)
        (qs : List (ℕ × ℕ)) (parts : List Part) (sets : List SetLine) (pairs : List (ℕ × ℕ)) →
        IsHeld section ps ss qs → next alls section kind ≡ Some to → is_known sys kind ≡ true →
        Keeps sys kind (record { section = section; parts = ps; sets = ss; pairs = qs }) parts sets pairs
        → IsSpelled kind bytes →
        Goes to parts sets pairs (held_text section ps ss qs) bytes
    goes Start to Certificate bytes ps ss qs parts sets pairs held follows known keeps is =
        let now : Opened ≡ to = cc in
        let none : parts ≡ [] = keeps.0 ∙ held.0 in
        subst (λ (s : Section). Goes s parts sets pairs [] bytes) now
        (record {
          held = (none, keeps.1 ∙ held.1, keeps.2 ∙ held.2);
          text_is = ap (λ (p : List Part). certificate_text sys p) none ∙ ap (λ (b : List ℕ). line b) (sym is);
        })
    goes Opened to (Lattice n) bytes ps ss qs parts sets pairs held follows known keeps is = by_lattice 0 n to follows
        (λ same low now.
        subst (λ (s : Section). Goes s parts sets pairs (certificate_text sys ps) bytes) now
        (rw (keeps.0, held.0, keeps.1, held.1, keeps.2, held.2)
        (begins n [] bytes tt same (omega (arith, same, low)) is)))
    goes (InSets k last) to (Lattice n) bytes ps ss qs parts sets pairs held follows known keeps is =
        by_lattice k n to follows
        (λ same low now.
        subst (λ (s : Section). Goes s parts sets pairs (open_text k ps ss qs) bytes) now
        (ends_and_begins k n (record { section = InSets k last; parts = ps; sets = ss; pairs = qs }) parts sets pairs
        bytes held.0 keeps same low is))
    goes (InSets k last) to (Set name first second) bytes ps ss qs parts sets pairs held follows known keeps is =
        by_test (InSets k (Some name)) to
        (name_behind last name && sets_fit (slice_index alls (k - 1)) first second) follows
        (λ test now. both_true (name_behind last name) (sets_fit (slice_index alls (k - 1)) first second) test
        (λ later fits.
        subst (λ (s : Section). Goes s parts sets pairs (open_text k ps ss qs) bytes) now
        (rw (keeps.0, keeps.1, keeps.2, held.2)
        (set_goes k last ps ss (record { name = name; first = first; second = second }) bytes
        (subst (λ (q : List (ℕ × ℕ)). IsOpen k ps ss q) held.2 held.0) held.1 later fits known is))))
    goes (InSets k last) to (Pair u v) bytes ps ss qs parts sets pairs held follows known keeps is =
        let now : InPairs k u v ≡ to = cc in
        subst (λ (s : Section). Goes s parts sets pairs (open_text k ps ss qs) bytes) now
        (both_true (is_name sys u) (is_name sys v) known
        (λ one two. rw (keeps.0, keeps.1, keeps.2)
        (pair_goes k ps ss qs (u, v) bytes held.0
        (ap (λ (q : List (ℕ × ℕ)). pair_behind (last_pair None q) (u, v)) held.2) one two is)))
    goes (InPairs k x y) to (Lattice n) bytes ps ss qs parts sets pairs held follows known keeps is =
        by_lattice k n to follows
        (λ same low now.
        subst (λ (s : Section). Goes s parts sets pairs (open_text k ps ss qs) bytes) now
        (ends_and_begins k n (record { section = InPairs k x y; parts = ps; sets = ss; pairs = qs }) parts sets pairs
        bytes held.0 keeps same low is))
    goes (InPairs k x y) to (Pair u v) bytes ps ss qs parts sets pairs held follows known keeps is =
        by_test (InPairs k u v) to (pair_behind (Some (x, y)) (u, v)) follows
        (λ later now.
        subst (λ (s : Section). Goes s parts sets pairs (open_text k ps ss qs) bytes) now
        (both_true (is_name sys u) (is_name sys v) known
        (λ one two. rw (keeps.0, keeps.1, keeps.2)
        (pair_goes k ps ss qs (u, v) bytes held.0
        (subst (λ (o : Option (ℕ × ℕ)). pair_behind o (u, v) ≡ true) held.1 later) one two is))))
    goes Start to (Lattice n) bytes ps ss qs parts sets pairs held follows known keeps is = absurd cc
    goes Start to (Set name first second) bytes ps ss qs parts sets pairs held follows known keeps is = absurd cc
    goes Start to (Pair u v) bytes ps ss qs parts sets pairs held follows known keeps is = absurd cc
    goes Start to Other bytes ps ss qs parts sets pairs held follows known keeps is = absurd cc
    goes Opened to Certificate bytes ps ss qs parts sets pairs held follows known keeps is = absurd cc
    goes Opened to (Set name first second) bytes ps ss qs parts sets pairs held follows known keeps is = absurd cc
    goes Opened to (Pair u v) bytes ps ss qs parts sets pairs held follows known keeps is = absurd cc
    goes Opened to Other bytes ps ss qs parts sets pairs held follows known keeps is = absurd cc
    goes (InSets k last) to Certificate bytes ps ss qs parts sets pairs held follows known keeps is = absurd cc
    goes (InSets k last) to Other bytes ps ss qs parts sets pairs held follows known keeps is = absurd cc
    goes (InPairs k x y) to Certificate bytes ps ss qs parts sets pairs held follows known keeps is = absurd cc
    goes (InPairs k x y) to (Set name first second) bytes ps ss qs parts sets pairs held follows known keeps is =
        absurd cc
    goes (InPairs k x y) to Other bytes ps ss qs parts sets pairs held follows known keeps is = absurd cc

    -- The reader has taken the lines in front of number n: it holds what they say, and what fails behind them is what
    -- fails.
    pub record StandsAt (bytes : List ℕ) (held : Held) (n : ℕ) (rest : List ℕ) : Type 0 where
      pub held_is : IsHeld held.section held.parts held.sets held.pairs
      pub text_is : bytes ≡ held_text held.section held.parts held.sets held.pairs ++ rest
      pub fault_is : fault_from sys alls held.section n (lines_of rest) ≡ fault_from sys alls Start 1 (lines_of bytes)

    pub stands_first : (bytes : List ℕ)
        → StandsAt bytes (record { section = Start; parts = []; sets = []; pairs = [] }) 1 bytes
    stands_first bytes = record { held_is = (refl, refl, refl); text_is = refl; fault_is = refl }

    -- the names and the number of a line that may stand there are small
    module _ (few : length sys.constraints ≤ most_constraints) (short : length alls ≤ 16) where
      number_small : (k n : ℕ) (to : Section)
          → cond ((n == k + 1) && nat_lt k (length alls)) (Some (InSets n None)) None ≡ Some to → n < 2 ^ 32 - 1
      number_small k n to h = by_lattice k n to h (λ same low now. omega (arith, same, low, short))

      lattice_small : (section to : Section) (n : ℕ) → next alls section (Lattice n) ≡ Some to → n < 2 ^ 32 - 1
      lattice_small Start to n h = absurd cc
      lattice_small Opened to n h = number_small 0 n to h
      lattice_small (InSets k last) to n h = number_small k n to h
      lattice_small (InPairs k u v) to n h = number_small k n to h

      line_small : (section to : Section) (kind : Line) → next alls section kind ≡ Some to → is_known sys kind ≡ true
          → IsSmallLine kind
      line_small section to Certificate follows known = tt
      line_small section to (Lattice n) follows known = lattice_small section to n follows
      line_small section to (Set name first second) follows known = small_name sys name few known
      line_small section to (Pair u v) follows known =
          both_true (is_name sys u) (is_name sys v) known
          (λ one two. (small_name sys u few one, small_name sys v few two))
      line_small section to Other follows known = tt

      -- the fault behind a line that was taken
      fault_moves : (section to : Section) (n : ℕ) (kind : Line) (lines : List Line) (first : Option CertFault)
          → next alls section kind ≡ Some to → is_known sys kind ≡ true →
          fault_from sys alls section n (kind ∷ lines) ≡ first → fault_from sys alls to (n + 1) lines ≡ first
      fault_moves section to n kind lines first follows known h =
          let met : fault_behind sys n kind (Some to) (λ s. fault_from sys alls s (n + 1) lines) ≡ first =
          subst (λ (o : Option Section). fault_behind sys n kind o (λ s. fault_from sys alls s (n + 1) lines)
          ≡ first) follows h in
          subst (λ (b : Bool). cond b (fault_from sys alls to (n + 1) lines) (Some (NoSuchVariable n))
          ≡ first) known met

      next_line : (rest behind : List ℕ) (kind : Line) → BeginsLine rest kind behind
          → lines_of rest ≡ kind ∷ lines_of behind
      next_line rest behind kind it =
          lines_of-parts rest it.part behind it.cut ∙ ap (λ (k : Line). k ∷ lines_of behind) (sym it.kind_is)

      pub takes_here : (bytes : List ℕ) (old new : Held) (n : ℕ) (rest behind : List ℕ) (kind : Line)
          → StandsAt bytes old n rest → BeginsLine rest kind behind →
          Takes sys alls kind old new → StandsAt bytes new (n + 1) behind
      takes_here bytes old new n rest behind kind stands it takes =
          let part = it.part in
          let small : IsSmallLine kind = line_small old.section new.section kind takes.follows takes.known in
          let spelled_ : IsSpelled kind part =
          subst (λ (k : Line). IsSpelled k part) (sym it.kind_is)
          (spelled part (subst (λ (k : Line). IsSmallLine k) it.kind_is small)) in
          let moved = goes old.section new.section kind part old.parts old.sets old.pairs new.parts new.sets new.pairs
          stands.held_is takes.follows takes.known takes.keeps spelled_ in
          let old_text = held_text old.section old.parts old.sets old.pairs in
          record {
            held_is = moved.held;
            text_is = stands.text_is ∙ ap (λ (t : List ℕ). old_text ++ t) (first_part rest part behind it.cut)
                ∙ line_joined old_text part behind
                ∙ ap (λ (t : List ℕ). t ++ behind) (sym moved.text_is);
            fault_is = fault_moves old.section new.section n kind (lines_of behind)
                (fault_from sys alls Start 1 (lines_of bytes)) takes.follows takes.known
                (ap (fault_from sys alls old.section n) (sym (next_line rest behind kind it)) ∙ stands.fault_is);
          }

      pub fails_here : (bytes : List ℕ) (old : Held) (n : ℕ) (rest behind : List ℕ) (kind : Line) (e : CertFault)
          → StandsAt bytes old n rest → BeginsLine rest kind behind →
          (e ≡ NoMemory) ⊎ FailsAt sys alls old.section n kind e
          → (e ≡ NoMemory) ⊎ (fault_from sys alls Start 1 (lines_of bytes) ≡ Some e)
      fails_here bytes old n rest behind kind e stands it (inl out) = inl out
      fails_here bytes old n rest behind kind e stands it (inr fails) =
          inr (sym stands.fault_is ∙ ap (fault_from sys alls old.section n) (next_line rest behind kind it)
          ∙ fails (λ s. fault_from sys alls s (n + 1) (lines_of behind)))

      no_other : (section : Section) → next alls section Other ≡ None
      no_other Start = refl
      no_other Opened = refl
      no_other (InSets k last) = refl
      no_other (InPairs k u v) = refl

      -- what stands behind the last line feed is no line
      pub fails_unended : (bytes : List ℕ) (held : Held) (n : ℕ) (rest : List ℕ) → StandsAt bytes held n rest
          → lines_of rest ≡ Other ∷ [] →
          fault_from sys alls Start 1 (lines_of bytes) ≡ Some (Grammar n)
      fails_unended bytes held n rest stands is =
          sym stands.fault_is ∙ ap (fault_from sys alls held.section n) is
          ∙ ap (λ (o : Option Section). fault_behind sys n Other o (λ s. fault_from sys alls s (n + 1) []))
          (no_other held.section)

      -- and the end comes too soon
      pub fails_at_end : (bytes : List ℕ) (held : Held) (n : ℕ) (rest : List ℕ) (e : CertFault)
          → StandsAt bytes held n rest → lines_of rest ≡ [] →
          (e ≡ NoMemory) ⊎ ((may_end alls held.section ≡ false) × (e ≡ Grammar n))
          → (e ≡ NoMemory) ⊎ (fault_from sys alls Start 1 (lines_of bytes) ≡ Some e)
      fails_at_end bytes held n rest e stands is (inl out) = inl out
      fails_at_end bytes held n rest e stands is (inr (soon, fault)) =
          inr (sym stands.fault_is ∙ ap (fault_from sys alls held.section n) is
          ∙ ap (λ (b : Bool). cond b None (Some (Grammar n))) soon ∙ ap Some (sym fault))

      -- the certificates of a whole text
      ends_whole : (k : ℕ) (bytes text : List ℕ) (parts : List Part) → (length alls == k) ≡ true → bytes ≡ text ++ []
          → Ends k parts text → IsReadAs sys alls bytes parts
      ends_whole k bytes text parts all is end = record {
        text_is = is ∙ append-nil text ∙ sym end.text_is;
        made = end.made;
        whole = end.many ∙ sym (same_number (length alls) k all);
      }

      whole : (section : Section) (bytes : List ℕ) (ps : List Part) (ss : List SetLine) (qs : List (ℕ × ℕ))
          (parts : List Part) (sets : List SetLine) (pairs : List (ℕ × ℕ)) →
          IsHeld section ps ss qs → bytes ≡ held_text section ps ss qs ++ [] → may_end alls section ≡ true →
          Closes sys section (record { section = section; parts = ps; sets = ss; pairs = qs }) parts sets pairs
          → IsReadAs sys alls bytes parts
      whole Start bytes ps ss qs parts sets pairs held is all closes = absurd cc
      whole Opened bytes ps ss qs parts sets pairs held is all closes =
          let none : parts ≡ [] = closes.0 ∙ held.0 in
          ends_whole 0 bytes (certificate_text sys ps) parts all is
          (record {
            made = rw none tt;
            many = ap length none;
            text_is = ap (λ (p : List Part). certificate_text sys p) closes.0;
          })
      whole (InSets k last) bytes ps ss qs parts sets pairs held is all closes =
          ends_whole k bytes (open_text k ps ss qs) parts all is (ends k
          (record { section = InSets k last; parts = ps; sets = ss; pairs = qs }) parts sets pairs held.0 closes)
      whole (InPairs k u v) bytes ps ss qs parts sets pairs held is all closes =
          ends_whole k bytes (open_text k ps ss qs) parts all is (ends k
          (record { section = InPairs k u v; parts = ps; sets = ss; pairs = qs }) parts sets pairs held.0 closes)

      pub reads_whole : (bytes : List ℕ) (held : Held) (n : ℕ) (rest : List ℕ) (parts : List Part)
          → StandsAt bytes held n rest → rest ≡ [] → may_end alls held.section ≡ true →
          (sets : List SetLine) × (pairs : List (ℕ × ℕ)) × Closes sys held.section held parts sets pairs
          → IsReadAs sys alls bytes parts
      reads_whole bytes held n rest parts stands none all closes =
          whole held.section bytes held.parts held.sets held.pairs parts closes.0 closes.1 stands.held_is
          (stands.text_is
          ∙ ap (λ (t : List ℕ). held_text held.section held.parts held.sets held.pairs ++ t) none) all closes.2

-- the lines of a certificate that ends are made it
pub closed_by : (sys : System) (old : Held) (sets : List SetLine) (pairs : List (ℕ × ℕ)) (part : Part)
    (parts : List Part) (no_sets : List SetLine) (no_pairs : List (ℕ × ℕ)) →
    sets ≡ old.sets → pairs ≡ old.pairs → IsPartOf sys sets pairs part → parts ≡ old.parts ++ part ∷ [] → no_sets ≡ []
    → no_pairs ≡ [] → Closed sys old parts no_sets no_pairs
closed_by sys old sets pairs part parts no_sets no_pairs one two is more none also = record {
  part = part;
  is = subst (λ (q : List (ℕ × ℕ)). IsPartOf sys old.sets q part) two
      (subst (λ (s : List SetLine). IsPartOf sys s pairs part) one is);
  parts_are = more;
  sets_are = none;
  pairs_are = also;
}

zero_is : (n : ℕ) → (n == 0) ≡ true → n ≡ 0
zero_is n h = grind (arith, h)

-- a text that is empty
pub none_left : (rest : List ℕ) (b : Bool) → b ≡ true → b ≡ (length rest == 0) → rest ≡ []
none_left rest b is empty = nil_from_length rest (zero_is (length rest) (sym empty ∙ is))

-- what is so of a value, from two facts
pub both_ok : {X E A : Type 0} → (P Q : X → Type 0) (r : Result X E) → ((x : X) → A → P x → Q x) → OnOk r A → IfOk r P
    → IfOk r Q
both_ok P Q (Ok x) f one two = f x one two
both_ok P Q (Err e) f one two = tt

-- what a reader gives is plain
pub made_plain : (sys : System) (orders : List Order) (parts : List Part) → AreMade sys (alls_of orders) parts
    → length parts ≡ length (alls_of orders) →
    ArePlain sys orders parts
made_plain sys [] [] made many = tt
made_plain sys [] (part ∷ parts) made many = absurd made
made_plain sys (order ∷ orders) [] made many = absurd (omega (arith, many))
made_plain sys (order ∷ orders) (part ∷ parts) made many =
    (made.0.0 order refl, made.0.1, made_plain sys orders parts made.1 (omega (arith, many)))
