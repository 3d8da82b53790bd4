-- The keys of the set of names, and the names that clauses see of it.
use Rattle.std.proofs.Common.{◌≡◌, ℕ, false, not, List, [], ◌∷◌, ◌++◌, map, length, Some, None, refl, sym, ◌∙◌, ap, is_some, unwrap_or, if◌then◌else◌, bytes_eq, position}
use Rattle.std.specs.List.{list_any, prefix_len}
use Rattle.std.specs.declared.alloc.Global.{Global}
use Rattle.std.specs.declared.vec.Vec.{Vec}
use Rattle.std.proofs.lemmas.List.{map-append, length-map}
use Rattle.indexmap.specs.IndexSet.{insert_key}
use Rattle.c_lexer.specs.Names.{name_number, with_name}

abbrev pub spellings : List (Vec ℕ Global) → List (List ℕ)
spellings keys = map (λ v. v.items) keys

first_place : (keys : List (Vec ℕ Global)) (name : List ℕ)
    → prefix_len (λ k. not (bytes_eq name k.items)) keys ≡ prefix_len (λ n. not (bytes_eq name n)) (spellings keys)
first_place [] name = refl
first_place (k ∷ keys) name = rw (first_place keys name) refl

-- a place among the keys is one among the names
pub position-spellings : (keys : List (Vec ℕ Global)) (name : List ℕ)
    → position (λ k. bytes_eq name k.items) keys ≡ position (bytes_eq name) (spellings keys)
position-spellings keys name = rw (first_place keys name, length-map keys (λ (v : Vec ℕ Global). v.items)) refl

pub known-number : (names : List (List ℕ)) (name : List ℕ) (i : ℕ) → position (bytes_eq name) names ≡ Some i
    → name_number names name ≡ i
known-number names name i at = ap (λ o. unwrap_or o (length names)) at

pub known-names : (names : List (List ℕ)) (name : List ℕ) (i : ℕ) → position (bytes_eq name) names ≡ Some i
    → with_name names name ≡ names
known-names names name i at = ap (λ o. if is_some o then names else names ++ name ∷ []) at

pub new-number : (names : List (List ℕ)) (name : List ℕ) → position (bytes_eq name) names ≡ None
    → name_number names name ≡ length names
new-number names name none = ap (λ o. unwrap_or o (length names)) none

-- a key that is new goes behind, as its name does
pub new-names : (keys after : List (Vec ℕ Global)) (k : Vec ℕ Global) (names : List (List ℕ)) (name : List ℕ)
    → spellings keys ≡ names →
    after ≡ insert_key (λ a b. bytes_eq a.items b.items) keys k → k.items ≡ name
    → list_any (λ x. bytes_eq name x.items) keys ≡ false → position (bytes_eq name) names ≡ None →
    spellings after ≡ with_name names name
new-names keys after k names name same put items apart none =
    let behind : after ≡ keys ++ k ∷ [] = put
    ∙ ap (λ b. if b then keys else keys ++ k ∷ []) (ap (λ n. list_any (λ x. bytes_eq n x.items) keys) items ∙ apart) in
    ap spellings behind ∙ map-append (λ (v : Vec ℕ Global). v.items) keys (k ∷ []) ∙ ap (λ ns. ns ++ k.items ∷ []) same
    ∙ ap (λ n. names ++ n ∷ []) items
    ∙ sym (ap (λ o. if is_some o then names else names ++ name ∷ []) none)
