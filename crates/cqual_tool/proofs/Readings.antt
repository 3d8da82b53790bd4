-- Readings one after the other, and what is answered of them.
use Rattle.std.proofs.Common.{◌≡◌, ℕ, ◌+◌, ◌<◌, ◌||◌, Bool, true, false, List, [], ◌∷◌, ◌++◌, length, Option, Some, None, Ok, Err, IfSome, All, refl, sym, ◌∙◌, ap, subst, arith, append-nil, append_assoc}
use Rattle.std.specs.declared.result.Result.{Result}
use Rattle.std.proofs.lemmas.List.{length-append}
use Rattle.std.proofs.lemmas.List.Elements.{All-nil, All-cons, All-head}
use Rattle.std.proofs.lemmas.Bool.{or_left}
use Rattle.outside.specs.Readings.{Agrees, AreWhole, Broken, End, Going, MayGive, Reading, ReadOn, ReadsAs, Standing, Whole, has_broken, is_broken, since}
use Rattle.cqual_tool.specs.declared.answer.Answer.{Answer}
use Rattle.cqual_tool.specs.declared.status.Status.{Status}
use Rattle.cqual_tool.specs.declared.taking.Failure.{Failure}
use Rattle.cqual_tool.specs.declared.taking.Failure.TheVariants.{ReadFault, NoMemory}
use Rattle.cqual_tool.specs.Inputs.{Inputs}
use Rattle.cqual_tool.specs.Answering.{Answered, Finds, IsSaid}

-- what came behind a log
pub since_is : (old these : List Reading) → since old (old ++ these) ≡ these
since_is [] these = refl
since_is (a ∷ old) these = since_is old these

all_agree : (told : Option (List (List ℕ × List ℕ))) → IfSome told (λ all. All (Agrees all) [])
all_agree None = tt
all_agree (Some all) = All-nil (Agrees all)

-- no reading
pub nothing_read : (s : Standing) → ReadOn s s []
nothing_read s = record {
  behind = sym (append-nil s.log);
  failed = omega arith;
  contents = refl;
  agrees = all_agree s.contents;
}

-- one reading, and others behind it

-- a reading and those behind it agree with what is told of the files, where each part does
agree_on : (told now : Option (List (List ℕ × List ℕ))) (r : Reading) (these : List Reading) → now ≡ told
    → IfSome told (λ all. All (Agrees all) (r ∷ [])) → IfSome now (λ all. All (Agrees all) these)
    → IfSome now (λ all. All (Agrees all) (r ∷ these))
agree_on told None r these same one more = tt
agree_on told (Some all) r these same one more =
    let first : All (Agrees all) (r ∷ []) =
    subst (λ (o : Option (List (List ℕ × List ℕ))). IfSome o (λ them. All (Agrees them) (r ∷ []))) (sym same) one in
    All-cons (Agrees all) r these (All-head (Agrees all) r [] first) more

-- a reading and then others go from the old standing to the new one, over the standing between them
pub read_then : (old mid new : Standing) (r : Reading) (these : List Reading) → ReadOn old mid (r ∷ [])
    → ReadOn mid new these → ReadOn old new (r ∷ these)
read_then old mid new r these one more =
    let first = one.failed in let second = more.failed in record {
      behind = more.behind ∙ ap (λ (log : List Reading). log ++ these) one.behind ∙ append_assoc old.log (r ∷ []) these;
      failed = omega (arith, first, second);
      contents = more.contents ∙ one.contents;
      agrees = agree_on mid.contents new.contents r these more.contents one.agrees more.agrees;
    }

whole_then : (r : Reading) (these : List Reading) → r.end ≡ Whole → AreWhole these → AreWhole (r ∷ these)
whole_then r [] is whole = tt
whole_then r (s ∷ more) is whole = (is, whole)

or_false : (b c : Bool) → b ≡ false → (b || c) ≡ c
or_false true c e = absurd cc
or_false false c e = refl

unbroken : (end : End) → end ≡ Whole → is_broken end ≡ false
unbroken end is = ap is_broken is

pub broken_alone : (r : Reading) (b : Bool) → is_broken r.end ≡ b → has_broken (r ∷ []) ≡ b
broken_alone r true is = or_left (is_broken r.end) false is
broken_alone r false is = or_false (is_broken r.end) false is

broken_then : (r : Reading) (these : List Reading) → r.end ≡ Whole → has_broken (r ∷ these) ≡ has_broken these
broken_then r these is = or_false (is_broken r.end) (has_broken these) (unbroken r.end is)

-- the content of a file that was read

-- a file of just the bytes that were read may have given them, however the reading stands
own_bytes : (end : End) (bytes : List ℕ) → MayGive end bytes bytes
own_bytes Going bytes = ([], sym (append-nil bytes))
own_bytes Whole bytes = refl
own_bytes Broken bytes = ([], sym (append-nil bytes))

pub whole_is : (r : Reading) (content : List ℕ) → r.end ≡ Whole → MayGive r.end content r.bytes → content ≡ r.bytes
whole_is r content is gives = subst (λ (end : End). MayGive end content r.bytes) is gives

-- where more than the limit was read and more may come, the content of the file has more than the limit
pub past_limit : (limit : ℕ) (r : Reading) (content : List ℕ) → (r.end ≡ Going) × (limit < length r.bytes)
    → MayGive r.end content r.bytes
    → limit < length content
past_limit limit r content past gives =
    let more : (rest : List ℕ) × (content ≡ r.bytes ++ rest) =
    subst (λ (end : End). MayGive end content r.bytes) past.0 gives in
    let over = past.1 in
    let sum : length content ≡ length r.bytes + length more.0 =
    ap (λ (bytes : List ℕ). length bytes) more.1 ∙ length-append r.bytes more.0 in
    omega (arith, over, sum)

pub none : Inputs
none = record { lattice = []; prelude = []; sources = []; saved = [] }

-- One reading of a file, with its part of the bytes, and the files behind it.
module _ (old mid : Standing) (r : Reading) (read : ReadOn old mid (r ∷ [])) (name : List ℕ) (same : r.name ≡ name)
    (part : Inputs → List ℕ) (put : Inputs → List ℕ → Inputs) (rest : Inputs → List (List ℕ × List ℕ))
    (puts : (inputs : Inputs) (bytes : List ℕ) → part (put inputs bytes) ≡ bytes)
    (keeps : (inputs : Inputs) (bytes : List ℕ) → rest (put inputs bytes) ≡ rest inputs)
    (Of : Inputs → Status → List ℕ → Type 0) (Starting : List Reading → Type 0) where
  abbrev all : Inputs → List (List ℕ × List ℕ)
  all inputs = (name, part inputs) ∷ rest inputs

  there : (these : List Reading) (inputs : Inputs) → ReadsAs (rest inputs) these
      → (i : Inputs) × ReadsAs (all i) (r ∷ these)
  there these inputs reads = (
    put inputs r.bytes,
    (
      same,
      subst (λ (content : List ℕ). MayGive r.end content r.bytes) (sym (puts inputs r.bytes)) (own_bytes r.end r.bytes),
      subst (λ (files : List (List ℕ × List ℕ)). ReadsAs files these) (sym (keeps inputs r.bytes)) reads,
    ),
  )

  -- it is the last
  ends : (these : Result Answer Failure) → Starting (r ∷ []) → IsSaid all Of (r ∷ []) these
      → Answered old mid all Of Starting these
  ends result starts says =
      (r ∷ [], record { read = read; in_turn = tt; there = there [] none tt; starts = starts; says = says })

  found : (limit : ℕ) (failure : Failure) → Finds limit r (Err failure) → IsSaid all Of (r ∷ []) (Err failure)
  found limit ReadFault is = broken_alone r true (ap is_broken is)
  found limit NoMemory is = broken_alone r false is

  pub stops : (limit : ℕ) (failure : Failure) → Starting (r ∷ []) → Finds limit r (Err failure)
      → Answered old mid all Of Starting (Err failure)
  stops limit failure starts is = ends (Err failure) starts (found limit failure is)

  pub lacks : (failure : Failure) → failure ≡ NoMemory → Starting (r ∷ []) → is_broken r.end ≡ false
      → Answered old mid all Of Starting (Err failure)
  lacks failure is starts whole =
      subst (λ (s : Failure). Answered old mid all Of Starting (Err s)) (sym is)
      (ends (Err NoMemory) starts (broken_alone r false whole))

  pub answers : (answer : Answer) → Starting (r ∷ []) → is_broken r.end ≡ false
      → ((inputs : Inputs) → MayGive r.end (part inputs) r.bytes → Of inputs answer.status answer.text.items)
      → Answered old mid all Of Starting (Ok answer)
  answers answer starts whole of =
      ends (Ok answer) starts (broken_alone r false whole, λ inputs reads. of inputs reads.1)

  -- others are behind it
  module _ (new : Standing) (OfRest : Inputs → Status → List ℕ → Type 0) (StartingRest : List Reading → Type 0)
      (whole : r.end ≡ Whole)
      (starting : (these : List Reading) → StartingRest these → Starting (r ∷ these))
      (of : (inputs : Inputs) (status : Status) (text : List ℕ) → part inputs ≡ r.bytes → OfRest inputs status text
      → Of inputs status text) where
    said : (result : Result Answer Failure) (these : List Reading) → IsSaid rest OfRest these result
        → IsSaid all Of (r ∷ these) result
    said (Ok answer) these is = (
      broken_then r these whole ∙ is.0,
      λ inputs reads.
          of inputs answer.status answer.text.items (whole_is r (part inputs) whole reads.1) (is.1 inputs reads.2),
    )
    said (Err ReadFault) these is = broken_then r these whole ∙ is
    said (Err NoMemory) these is = broken_then r these whole ∙ is

    pub goes : (result : Result Answer Failure) → Answered mid new rest OfRest StartingRest result
        → Answered old new all Of Starting result
    goes result more =
        let these = more.0 in
        let by = more.1 in (
          r ∷ these,
          record {
            read = read_then old mid new r these read by.read;
            in_turn = whole_then r these whole by.in_turn;
            there = there these by.there.0 by.there.1;
            starts = starting these by.starts;
            says = said result these by.says;
          },
        )
