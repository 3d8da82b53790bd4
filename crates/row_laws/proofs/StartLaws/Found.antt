-- Where skeletons begin along parts of a tape, from each state, with each thing around them.
use Rattle.std.proofs.Common.{◌≡◌, List, [], ◌∷◌, ◌++◌, refl, sym, ◌∙◌, ap, append_assoc}
use Rattle.std.proofs.lemmas.List.{append-nil}
use Rattle.tape_ops.specs.declared.op.Op.{Op}
use Rattle.name_rules.specs.Spellings.{Spelling}
use Rattle.name_rules.specs.Scopes.{Names}
use Rattle.name_rules.specs.ShapeSteps.State.{State, OpenDeclaration}
use Rattle.name_rules.specs.ShapeSteps.Steps.{step, run}
use Rattle.resolve_laws.specs.ShapeLaws.Laws.{ShapesAreLeft, AddressedAreLeft, OldNamesAreLeft}
use Rattle.row_rules.specs.Starting.{Start, Around, Having}
use Rattle.row_rules.specs.RowSteps.Rounds.{Rounds, naming, round_step}
use Rattle.row_rules.specs.RowSteps.Starting.{around, naming_has, op_starts, starts_found}

-- what a tape is gone through with, and the laws of the shapes that it leaves
pub record Over : Type 0 where
  pub spelling : Spelling
  pub names : Names
  pub shaped : ShapesAreLeft
  pub addressed : AddressedAreLeft
  pub named : OldNamesAreLeft

abbrev pub at : Over → Rounds → Around
at k r = around k.spelling k.names r

abbrev pub behind : Over → State → List Op → State
behind k st tape = run k.spelling k.names st tape

abbrev pub starts_at : Over → State → Rounds → Op → List Start
starts_at k st r op = op_starts k.spelling k.names st r op

abbrev pub found : Over → State → Rounds → List Op → List Start
found k st r tape = starts_found k.spelling k.names st r tape

-- what is around the end of a tape
abbrev pub rounds_behind : Over → State → Rounds → List Op → Rounds
rounds_behind k st r [] = r
rounds_behind k st r (op ∷ tape) =
    rounds_behind k (step k.spelling k.names st op) (round_step st.declarations r op) tape

pub run_append : (k : Over) (xs ys : List Op) (st : State) →
    behind k st (xs ++ ys) ≡ behind k (behind k st xs) ys
run_append k [] ys st = refl
run_append k (op ∷ xs) ys st = run_append k xs ys (step k.spelling k.names st op)

-- the rounds behind two tapes in a row are those behind the second, from the state and the rounds behind the first
pub rounds_append : (k : Over) (xs ys : List Op) (st : State) (r : Rounds) →
    rounds_behind k st r (xs ++ ys) ≡ rounds_behind k (behind k st xs) (rounds_behind k st r xs) ys
rounds_append k [] ys st r = refl
rounds_append k (op ∷ xs) ys st r =
    rounds_append k xs ys (step k.spelling k.names st op) (round_step st.declarations r op)

-- skeletons found along two tapes in a row are those of the first, then those of the second from behind it
pub found_append : (k : Over) (xs ys : List Op) (st : State) (r : Rounds) →
    found k st r (xs ++ ys) ≡ found k st r xs ++ found k (behind k st xs) (rounds_behind k st r xs) ys
found_append k [] ys st r = refl
found_append k (op ∷ xs) ys st r =
    ap (λ (more : List Start). starts_at k st r op ++ more)
    (found_append k xs ys (step k.spelling k.names st op) (round_step st.declarations r op))
    ∙ sym (append_assoc (starts_at k st r op)
    (found k (step k.spelling k.names st op) (round_step st.declarations r op) xs)
    (found k (behind k (step k.spelling k.names st op) xs)
    (rounds_behind k (step k.spelling k.names st op) (round_step st.declarations r op) xs) ys))

-- what names of declarators have there
abbrev pub has_at : Over → Rounds → Having
has_at k r = naming_has k.spelling k.names (naming r)

-- From any state, where names of declarators have skeletons or none, these skeletons begin along a tape, by what is
-- around it; behind it the same is around.
pub record Finds (k : Over) (h : Having) (tape : List Op) (f : Around → List Start) : Type 0 where
  pub finds : (st : State) (r : Rounds) → has_at k r ≡ h → found k st r tape ≡ f (at k r)
  pub stays : (st : State) (r : Rounds) → rounds_behind k st r tape ≡ r

pub nothing : {k : Over} {h : Having} → Finds k h [] (λ a. [])
nothing = record { finds = λ st r e. refl; stays = λ st r. refl }

-- one tape behind another
pub join : {k : Over} {h : Having} {xs ys : List Op} {f g : Around → List Start} → Finds k h xs f →
    Finds k h ys g → Finds k h (xs ++ ys) (λ a. f a ++ g a)
join {k} {h} {xs} {ys} {f} {g} p q = record {
  finds = λ st r e. found_append k xs ys st r
      ∙ (ap (λ (b : Rounds). found k st r xs ++ found k (behind k st xs) b ys) (p.stays st r)
      ∙ (ap (λ (starts : List Start). starts ++ found k (behind k st xs) r ys) (p.finds st r e)
      ∙ ap (λ (starts : List Start). f (at k r) ++ starts) (q.finds (behind k st xs) r e)));
  stays = λ st r. rounds_append k xs ys st r
      ∙ (ap (λ (b : Rounds). rounds_behind k (behind k st xs) b ys) (p.stays st r) ∙ q.stays (behind k st xs) r);
}

-- the same skeletons, said in another way
pub same : {k : Over} {h : Having} {tape : List Op} {f g : Around → List Start} → Finds k h tape f →
    ((r : Rounds) → f (at k r) ≡ g (at k r)) → Finds k h tape g
same p e = record { finds = λ st r is. p.finds st r is ∙ e r; stays = p.stays }

-- one op behind a tape
pub followed : {k : Over} {h : Having} {xs : List Op} {f : Around → List Start} (op : Op) (g : Around → List Start) →
    Finds k h xs f → ((st : State) (r : Rounds) → starts_at k (behind k st xs) r op ≡ g (at k r)) →
    ((ds : List OpenDeclaration) (r : Rounds) → round_step ds r op ≡ r) →
    Finds k h (xs ++ op ∷ []) (λ a. f a ++ g a)
followed {k} {h} {xs} {f} op g p begin stay = record {
  finds = λ st r e. found_append k xs (op ∷ []) st r
      ∙ (ap (λ (b : Rounds). found k st r xs ++ (starts_at k (behind k st xs) b op ++ [])) (p.stays st r)
      ∙ (ap (λ (starts : List Start). starts ++ (starts_at k (behind k st xs) r op ++ [])) (p.finds st r e)
      ∙ (ap (λ (starts : List Start). f (at k r) ++ starts) (append-nil (starts_at k (behind k st xs) r op))
      ∙ ap (λ (starts : List Start). f (at k r) ++ starts) (begin st r))));
  stays = λ st r. rounds_append k xs (op ∷ []) st r
      ∙ (ap (λ (b : Rounds). round_step (behind k st xs).declarations b op) (p.stays st r)
      ∙ stay (behind k st xs).declarations r);
}

-- one op behind a tape, at which none begins
pub without : {k : Over} {h : Having} {xs : List Op} {f : Around → List Start} (op : Op) →
    Finds k h xs f → ((st : State) (r : Rounds) → starts_at k st r op ≡ []) →
    ((ds : List OpenDeclaration) (r : Rounds) → round_step ds r op ≡ r) →
    Finds k h (xs ++ op ∷ []) f
without {k} {h} {xs} {f} op p none stay =
    same (followed op (λ a. []) p (λ st r. none (behind k st xs) r) stay) (λ r. append-nil (f (at k r)))

-- one op
pub one : {k : Over} {h : Having} (op : Op) (g : Around → List Start) →
    ((st : State) (r : Rounds) → has_at k r ≡ h → starts_at k st r op ≡ g (at k r)) →
    ((ds : List OpenDeclaration) (r : Rounds) → round_step ds r op ≡ r) → Finds k h (op ∷ []) g
one {k} op g begin stay = record {
  finds = λ st r e. append-nil (starts_at k st r op) ∙ begin st r e;
  stays = λ st r. stay st.declarations r;
}

-- one op, at which none begins
pub idle : {k : Over} {h : Having} (op : Op) → ((st : State) (r : Rounds) → starts_at k st r op ≡ []) →
    ((ds : List OpenDeclaration) (r : Rounds) → round_step ds r op ≡ r) → Finds k h (op ∷ []) (λ a. [])
idle op none stay = one op (λ a. []) (λ st r e. none st r) stay

-- Between two ops, where something else is around: from what is around to what is around a tape within by `into`, of
-- which the skeletons know by `inside`.
pub enclosed : {k : Over} {h within : Having} {tape : List Op} {f : Around → List Start} (opening closing : Op)
    (into : Rounds → Rounds) (inside : Around → Around) (g : Around → List Start) →
    ((st : State) (r : Rounds) → starts_at k st r opening ≡ []) →
    ((st : State) (r : Rounds) → round_step st.declarations r opening ≡ into r) →
    ((r : Rounds) → has_at k (into r) ≡ within) → ((r : Rounds) → at k (into r) ≡ inside (at k r)) →
    ((st : State) (r : Rounds) → starts_at k st (into r) closing ≡ g (at k r)) →
    ((ds : List OpenDeclaration) (r : Rounds) → round_step ds (into r) closing ≡ r) → Finds k within tape f →
    Finds k h (opening ∷ (tape ++ closing ∷ [])) (λ a. f (inside a) ++ g a)
enclosed {k} {h} {within} {tape} {f} opening closing into inside g none enter has told begin leave p = record {
  finds = λ st r e.
      ap (λ (starts : List Start). starts ++ found k (next st) (round_step st.declarations r opening) tail) (none st r)
      ∙ (ap (λ (b : Rounds). found k (next st) b tail) (enter st r)
      ∙ (found_append k tape (closing ∷ []) (next st) (into r)
      ∙ (ap (λ (b : Rounds). found k (next st) (into r) tape ++ (starts_at k (end st) b closing ++ []))
      (p.stays (next st) (into r))
      ∙ (ap (λ (starts : List Start). starts ++ (starts_at k (end st) (into r) closing ++ []))
      (p.finds (next st) (into r) (has r) ∙ ap f (told r))
      ∙ ap (λ (starts : List Start). f (inside (at k r)) ++ starts)
      (append-nil (starts_at k (end st) (into r) closing) ∙ begin (end st) r)))));
  stays = λ st r. ap (λ (b : Rounds). rounds_behind k (next st) b tail) (enter st r)
      ∙ (rounds_append k tape (closing ∷ []) (next st) (into r)
      ∙ (ap (λ (b : Rounds). round_step (end st).declarations b closing) (p.stays (next st) (into r))
      ∙ leave (end st).declarations r));
} where
  tail : List Op
  tail = tape ++ closing ∷ []

  next : State → State
  next st = step k.spelling k.names st opening

  end : State → State
  end st = behind k (next st) tape

-- between two ops at which none begins
pub around_tape : {k : Over} {h within : Having} {tape : List Op} {f : Around → List Start} (opening closing : Op)
    (into : Rounds → Rounds) (inside : Around → Around) →
    ((st : State) (r : Rounds) → starts_at k st r opening ≡ []) →
    ((st : State) (r : Rounds) → round_step st.declarations r opening ≡ into r) →
    ((r : Rounds) → has_at k (into r) ≡ within) → ((r : Rounds) → at k (into r) ≡ inside (at k r)) →
    ((st : State) (r : Rounds) → starts_at k st (into r) closing ≡ []) →
    ((ds : List OpenDeclaration) (r : Rounds) → round_step ds (into r) closing ≡ r) → Finds k within tape f →
    Finds k h (opening ∷ (tape ++ closing ∷ [])) (λ a. f (inside a))
around_tape {k} {f = f} opening closing into inside none enter has told begin leave p =
    same (enclosed opening closing into inside (λ a. []) none enter has told begin leave p)
    (λ r. append-nil (f (inside (at k r))))

-- a tape behind, along which none begins
pub silent : {k : Over} {h : Having} {xs ys : List Op} {f : Around → List Start} → Finds k h xs f →
    Finds k h ys (λ a. []) → Finds k h (xs ++ ys) f
silent {k} {f = f} p q = same (join p q) (λ r. append-nil (f (at k r)))

-- in other groups

pub of_three : {k : Over} {h : Having} {tape : List Op} (f g i : Around → List Start) →
    Finds k h tape (λ a. (f a ++ g a) ++ i a) → Finds k h tape (λ a. f a ++ (g a ++ i a))
of_three {k} f g i p = same p (λ r. append_assoc (f (at k r)) (g (at k r)) (i (at k r)))

-- four groups of skeletons that are found along a tape are found there in the other grouping
pub of_four : {k : Over} {h : Having} {tape : List Op} (f g i j : Around → List Start) →
    Finds k h tape (λ a. ((f a ++ g a) ++ i a) ++ j a) → Finds k h tape (λ a. f a ++ (g a ++ (i a ++ j a)))
of_four {k} f g i j p =
    same p (λ r. append_assoc (f (at k r) ++ g (at k r)) (i (at k r)) (j (at k r))
    ∙ append_assoc (f (at k r)) (g (at k r)) (i (at k r) ++ j (at k r)))
