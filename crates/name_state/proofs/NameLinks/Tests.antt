-- Tests and their parts.
use Rattle.std.proofs.Common.{◌≡◌, ℕ, Bool, true, false, not, ◌&&◌, ◌||◌, nat_eq, inl, inr, refl, sym, ◌∙◌, ap, if◌then◌else◌}
use Rattle.std.proofs.lemmas.Bool.Decides.{eqb_tells}
use Rattle.std.proofs.lemmas.Bool.{eq-eqb}
use Rattle.qual_base.proofs.Tests.{and_second, and_first, eq_is, not_equal}
use Rattle.tape_ops.specs.declared.specifier.TagKind.{TagKind}
use Rattle.tape_ops.specs.declared.specifier.TagKind.TheVariants as kinds
use Rattle.name_rules.specs.Scopes.{StructKey, is_kind}
use Rattle.name_rules.specs.Linking.{is_same_key}

pub and_true : (b : Bool) → b && true ≡ b
and_true true = refl
and_true false = refl

pub or_true : (b : Bool) → b || true ≡ true
or_true true = refl
or_true false = refl

pub or_assoc : (a b c : Bool) → (a || b) || c ≡ a || (b || c)
or_assoc true b c = refl
or_assoc false b c = refl

-- two numbers are tested for being the same in either order
pub number_sym : (m n : ℕ) → nat_eq m n ≡ nat_eq n m
number_sym m n = elim (eqb_tells m n) [
  | inl same ↦ same.0 ∙ sym (eq-eqb n m (sym same.1))
  | inr other ↦ other.0 ∙ sym (not_equal n m (λ is. other.1 (sym is)))
]

-- keys

-- two kinds of tags are tested for being the same in either order
kind_sym : (a b : TagKind) → is_kind a b ≡ is_kind b a
kind_sym kinds.Struct kinds.Struct = refl
kind_sym kinds.Struct kinds.Union = refl
kind_sym kinds.Struct kinds.Enum = refl
kind_sym kinds.Union kinds.Struct = refl
kind_sym kinds.Union kinds.Union = refl
kind_sym kinds.Union kinds.Enum = refl
kind_sym kinds.Enum kinds.Struct = refl
kind_sym kinds.Enum kinds.Union = refl
kind_sym kinds.Enum kinds.Enum = refl

-- kinds of tags that pass the test for being the same are equal
kind_is : (a b : TagKind) → is_kind a b ≡ true → a ≡ b
kind_is kinds.Struct kinds.Struct is = refl
kind_is kinds.Struct kinds.Union is = absurd cc
kind_is kinds.Struct kinds.Enum is = absurd cc
kind_is kinds.Union kinds.Struct is = absurd cc
kind_is kinds.Union kinds.Union is = refl
kind_is kinds.Union kinds.Enum is = absurd cc
kind_is kinds.Enum kinds.Struct is = absurd cc
kind_is kinds.Enum kinds.Union is = absurd cc
kind_is kinds.Enum kinds.Enum is = refl

-- each kind of tags passes the test for being the same as itself
kind_same : (a : TagKind) → is_kind a a ≡ true
kind_same kinds.Struct = refl
kind_same kinds.Union = refl
kind_same kinds.Enum = refl

-- two truth values are tested for being the same in either order
word_sym : (a b : Bool) → (if a then b else not b) ≡ (if b then a else not a)
word_sym true true = refl
word_sym true false = refl
word_sym false true = refl
word_sym false false = refl

-- truth values that pass the test for being the same are equal
word_is : (a b : Bool) → (if a then b else not b) ≡ true → a ≡ b
word_is true true is = refl
word_is true false is = absurd cc
word_is false true is = absurd cc
word_is false false is = refl

word_same : (a : Bool) → (if a then a else not a) ≡ true
word_same true = refl
word_same false = refl

-- two keys of structs are tested for being the same in either order
pub key_sym : (a b : StructKey) → is_same_key a b ≡ is_same_key b a
key_sym a b =
    ap (λ x. x && ((if a.by_typedef then b.by_typedef else not b.by_typedef) && nat_eq a.name b.name))
    (kind_sym a.kind b.kind)
    ∙ ap (λ x. is_kind b.kind a.kind && (x && nat_eq a.name b.name)) (word_sym a.by_typedef b.by_typedef)
    ∙ ap (λ x. is_kind b.kind a.kind && ((if b.by_typedef then a.by_typedef else not a.by_typedef) && x))
    (number_sym a.name b.name)

-- each key of a struct passes the test for being the same as itself
pub key_same : (a : StructKey) → is_same_key a a ≡ true
key_same a =
    ap (λ x. x && ((if a.by_typedef then a.by_typedef else not a.by_typedef) && nat_eq a.name a.name))
    (kind_same a.kind)
    ∙ ap (λ x. x && nat_eq a.name a.name) (word_same a.by_typedef) ∙ eq-eqb a.name a.name refl

-- keys of structs that pass the test for being the same are equal
pub key_is : (a b : StructKey) → is_same_key a b ≡ true → a ≡ b
key_is a b is =
    let rest = and_second (is_kind a.kind b.kind)
    ((if a.by_typedef then b.by_typedef else not b.by_typedef) && nat_eq a.name b.name) is in
    let word = if a.by_typedef then b.by_typedef else not b.by_typedef in
    let kinds_are = kind_is a.kind b.kind (and_first (is_kind a.kind b.kind) (word && nat_eq a.name b.name) is) in
    let words_are = word_is a.by_typedef b.by_typedef (and_first word (nat_eq a.name b.name) rest) in
    let names_are = eq_is a.name b.name (and_second word (nat_eq a.name b.name) rest) in
    ap (λ (k : TagKind). let r : StructKey =
    record { kind = k; by_typedef = a.by_typedef; name = a.name } in r) kinds_are
    ∙ ap (λ (w : Bool). let r : StructKey = record { kind = b.kind; by_typedef = w; name = a.name } in r) words_are
    ∙ ap (λ (n : ℕ). let r : StructKey = record { kind = b.kind; by_typedef = b.by_typedef; name = n } in r) names_are
