-- Comments that come out of a source, and their making.
use Rattle.std.proofs.Common.{◌≡◌, ℕ, zero, suc, ◌+◌, ◌-◌, ◌<◌, ◌≤◌, ◌⊎◌, inl, inr, Bool, true, ◌&&◌, if◌then◌else◌, List, [], ◌∷◌}
use Rattle.std.proofs.Common.{◌++◌, length, take, drop, slice_get, slice_set, Option, Some, None, Vec, codes, nat_eq, refl, sym, ◌∙◌, ap}
use Rattle.std.proofs.Common.{subst, arith, append-nil, append_assoc}
use Rattle.std.specs.Global.{Global}
use Rattle.std.specs.List.{flat_map}
use Rattle.std.proofs.lemmas.Bool.{cases_order, eq-eqb, ne_eqb}
use Rattle.std.proofs.lemmas.List.{take-append-drop}
use Rattle.std.proofs.lemmas.Option.{slice_get_within}
use Rattle.qual_base.proofs.Tests.{and_false, some_is}
use Rattle.qual_types.specs.Positions.{PositionView}
use Rattle.annotate.specs.declared.listing.Listing.{Listing}
use Rattle.annotate.specs.Texts.{Scene}
use Rattle.annotate.specs.Annotated.{pieces_from, with_comments, without_comments, comment_text, CommentsComeOut, item_at, item_text}
use Rattle.annotate.specs.Annotated.{items_at, behind}
use Rattle.annotate.specs.Comments.{opened, begun_with, closed, HoldComments, AreComments}

-- the pieces without their comments are what was left of the source
come_out_from : (items : ℕ → List (List ℕ)) (ends : ℕ → ℕ) (at : ℕ) (left : List ℕ) (token more : ℕ) →
    without_comments (pieces_from items ends at left token more) ≡ left
come_out_from items ends at left token zero = append-nil left
come_out_from items ends at left token (suc more) =
    ap (λ (t : List ℕ). take (ends token - at) left ++ t)
    (come_out_from items ends (at + (ends token - at)) (drop (ends token - at) left) (suc token) more)
    ∙ take-append-drop (ends token - at) left

-- the comments of an annotated source, taken out, leave the source
pub come_out : CommentsComeOut
come_out scene lexed listings =
    come_out_from (λ token. items_at scene lexed.unit token listings) (behind lexed) 0 lexed.bytes 0
    (length lexed.tokens)

-- a comment with its end is the text of its items
closed_is : (items : List (List ℕ)) → closed (opened items) ≡ comment_text items
closed_is [] = refl
closed_is (item ∷ items) = refl

-- one piece more
step_piece : (items : ℕ → List (List ℕ)) (ends : ℕ → ℕ) (at n more : ℕ) (left out comment : List ℕ)
    → comment ≡ opened (items n) →
    (out ++ (take (ends n - at) left ++ closed comment)) ++ with_comments
    (pieces_from items ends (at + (ends n - at)) (drop (ends n - at) left) (suc n) more)
    ≡ out ++ with_comments (pieces_from items ends at left n (suc more))
step_piece items ends at n more left out comment is =
    let rest = with_comments (pieces_from items ends (at + (ends n - at)) (drop (ends n - at) left) (suc n) more) in
    ap (λ (c : List ℕ). (out ++ (take (ends n - at) left ++ c)) ++ rest) (ap closed is ∙ closed_is (items n))
    ∙ append_assoc out (take (ends n - at) left ++ comment_text (items n)) rest

-- one token more, with the bytes up to its end and its comment, leaves the pieces from the next token on
pub next_piece : (items : ℕ → List (List ℕ)) (ends : ℕ → ℕ) (at n count : ℕ) (left out comment : List ℕ) → n < count →
    comment ≡ opened (items n) →
    (out ++ (take (ends n - at) left ++ closed comment)) ++ with_comments
    (pieces_from items ends (at + (ends n - at)) (drop (ends n - at) left) (n + 1) (count - (n + 1)))
    ≡ out ++ with_comments (pieces_from items ends at left n (count - n))
next_piece items ends at n count left out comment within is =
    let next : n + 1 ≡ suc n = omega arith in
    let more : suc (count - (n + 1)) ≡ count - n = omega (arith, within) in
    ap (λ k. (out ++ (take (ends n - at) left ++ closed comment)) ++ with_comments
    (pieces_from items ends (at + (ends n - at)) (drop (ends n - at) left) k (count - (n + 1)))) next
    ∙ step_piece items ends at n (count - (n + 1)) left out comment is
    ∙ ap (λ k. out ++ with_comments (pieces_from items ends at left n k)) more

-- and behind the last token the rest
pub last_piece : (items : ℕ → List (List ℕ)) (ends : ℕ → ℕ) (at n count : ℕ) (left out : List ℕ) → count ≤ n →
    out ++ left ≡ out ++ with_comments (pieces_from items ends at left n (count - n))
last_piece items ends at n count left out past =
    let no_more : 0 ≡ count - n = omega (arith, past) in
    ap (λ (t : List ℕ). out ++ t) (sym (append-nil left) ∙ sym (append-nil (left ++ [])))
    ∙ ap (λ k. out ++ with_comments (pieces_from items ends at left n k)) no_more

-- before the first token the pieces are those of all bytes of the unit
pub first_pieces : (items : ℕ → List (List ℕ)) (ends : ℕ → ℕ) (count : ℕ) (left bytes out : List ℕ) → left ≡ bytes →
    out ++ with_comments (pieces_from items ends 0 left 0 (count - 0)) ≡ out
    ++ with_comments (pieces_from items ends 0 bytes 0 count)
first_pieces items ends count left bytes out is =
    let all : count - 0 ≡ count = omega arith in
    ap (λ (l : List ℕ). out ++ with_comments (pieces_from items ends 0 l 0 (count - 0))) is
    ∙ ap (λ k. out ++ with_comments (pieces_from items ends 0 bytes 0 k)) all

-- no texts, and so many empty texts and one more
pub hold_none : (length {A = Vec ℕ Global} [] ≡ 0) × HoldComments (λ token. []) []
hold_none = (refl, λ token comment there. absurd cc)

-- one empty text more, behind empty ones, is the text of a token without a comment
pub hold_one_more : (texts : List (Vec ℕ Global)) (text : Vec ℕ Global) → text.items ≡ []
    → HoldComments (λ token. []) texts →
    HoldComments (λ token. []) (texts ++ text ∷ [])
hold_one_more [] text empty hold zero comment there = ap (λ (v : Vec ℕ Global). v.items) (sym (some_is there)) ∙ empty
hold_one_more [] text empty hold (suc token) comment there = absurd cc
hold_one_more (x ∷ xs) text empty hold zero comment there = hold zero comment there
hold_one_more (x ∷ xs) text empty hold (suc token) comment there =
    hold_one_more xs text empty (λ t c is. hold (suc t) c is) token comment there

-- the items with one more element that is listed
more_items : (scene : Scene) (unit token : ℕ) (before : List Listing) (listing : Listing) →
    items_at scene unit token (before ++ listing ∷ [])
    ≡ items_at scene unit token before ++ item_at scene unit token listing (slice_get scene.positions listing.var)
more_items scene unit token [] listing =
    append-nil (item_at scene unit token listing (slice_get scene.positions listing.var))
more_items scene unit token (l ∷ ls) listing =
    let here = item_at scene unit token l (slice_get scene.positions l.var) in
    ap (λ (items : List (List ℕ)). here ++ items) (more_items scene unit token ls listing)
    ∙ sym (append_assoc here (items_at scene unit token ls)
    (item_at scene unit token listing (slice_get scene.positions listing.var)))

-- an element that is listed without an item at a token leaves the items of this token as they were
same_items : (scene : Scene) (unit token : ℕ) (before : List Listing) (listing : Listing) →
    item_at scene unit token listing (slice_get scene.positions listing.var) ≡ [] →
    items_at scene unit token before ≡ items_at scene unit token (before ++ listing ∷ [])
same_items scene unit token before listing none =
    sym (more_items scene unit token before listing
    ∙ ap (λ (items : List (List ℕ)). items_at scene unit token before ++ items) none
    ∙ append-nil (items_at scene unit token before))

-- an element that stands at no token of the unit changes no comment
pub none_more : (scene : Scene) (unit : ℕ) (before : List Listing) (listing : Listing)
    (comments : List (Vec ℕ Global)) →
    ((token : ℕ) → token < length comments
    → item_at scene unit token listing (slice_get scene.positions listing.var) ≡ []) →
    AreComments scene unit before comments → AreComments scene unit (before ++ listing ∷ []) comments
none_more scene unit before listing comments none are token comment there =
    are token comment there ∙ ap opened
    (same_items scene unit token before listing (none token (slice_get_within comments token comment there)))

-- where it stands at another unit, or at another token, or nowhere
pub no_item : (scene : Scene) (unit token : ℕ) (listing : Listing) (found : Option PositionView) → found ≡ None →
    item_at scene unit token listing found ≡ []
no_item scene unit token listing found is = ap (item_at scene unit token listing) is

-- an element of a variable in another unit has no item at a token
pub other_unit : (scene : Scene) (unit token : ℕ) (listing : Listing) (found : Option PositionView)
    (at : PositionView) →
    found ≡ Some at → (at.unit ≡ unit → ⊥) → item_at scene unit token listing found ≡ []
other_unit scene unit token listing found at is other =
    ap (item_at scene unit token listing) is
    ∙ ap (λ (same : Bool). if same && nat_eq at.token token then item_text scene at.path listing ∷ [] else [])
    (ne_eqb at.unit unit other)

-- an element of a variable at another token has no item at this one
pub other_token : (scene : Scene) (unit token : ℕ) (listing : Listing) (found : Option PositionView)
    (at : PositionView) →
    found ≡ Some at → (at.token ≡ token → ⊥) → item_at scene unit token listing found ≡ []
other_token scene unit token listing found at is other =
    let If : Bool → List (List ℕ) = λ same. if same then item_text scene at.path listing ∷ [] else [] in
    ap (item_at scene unit token listing) is
    ∙ ap If (ap (λ (same : Bool). nat_eq at.unit unit && same) (ne_eqb at.token token other)
    ∙ and_false (nat_eq at.unit unit))

-- where it stands at this one
this_token : (scene : Scene) (unit token : ℕ) (listing : Listing) (found : Option PositionView) (at : PositionView)
    → found ≡ Some at →
    at.unit ≡ unit → at.token ≡ token →
    item_at scene unit token listing found ≡ item_text scene at.path listing ∷ []
this_token scene unit token listing found at is same_unit same_token =
    let If : Bool → List (List ℕ) = λ same. if same then item_text scene at.path listing ∷ [] else [] in
    ap (item_at scene unit token listing) is
    ∙ ap (λ (same : Bool). If (same && nat_eq at.token token)) (eq-eqb at.unit unit same_unit)
    ∙ ap (λ (same : Bool). If (true && same)) (eq-eqb at.token token same_token)

-- an item more in a comment
more_text : (items : List (List ℕ)) (item : List ℕ) →
    flat_map (λ (next : List ℕ). codes ", " ++ next) (items ++ item ∷ [])
    ≡ flat_map (λ (next : List ℕ). codes ", " ++ next) items ++ (codes ", " ++ item)
more_text [] item = append-nil (codes ", " ++ item)
more_text (x ∷ xs) item =
    ap (λ (t : List ℕ). (codes ", " ++ x) ++ t) (more_text xs item)
    ∙ sym (append_assoc (codes ", " ++ x) (flat_map (λ (next : List ℕ). codes ", " ++ next) xs) (codes ", " ++ item))

-- the text of items with one more behind a comma is the text of the items with this at their end
opened_more : (items : List (List ℕ)) (item : List ℕ) → begun_with (opened items) ++ item ≡ opened (items ++ item ∷ [])
opened_more [] item = sym (append-nil (codes "/*" ++ item))
opened_more (x ∷ xs) item =
    let front = codes "/*" ++ x in
    let nexts = flat_map (λ (next : List ℕ). codes ", " ++ next) xs in
    append_assoc (front ++ nexts) (codes ", ") item ∙ append_assoc front nexts (codes ", " ++ item)
    ∙ ap (λ (t : List ℕ). front ++ t) (sym (more_text xs item))

-- a comment of the list in place of another
set_here : (comments : List (Vec ℕ Global)) (n : ℕ) (new comment : Vec ℕ Global) → n < length comments →
    slice_get (slice_set comments n new) n ≡ Some comment → new ≡ comment
set_here [] n new comment within there = absurd (omega (arith, within))
set_here (x ∷ xs) zero new comment within there = some_is there
set_here (x ∷ xs) (suc n) new comment within there = set_here xs n new comment (omega (arith, within)) there

-- a comment that is set for one token leaves those of other tokens as they were
set_there : (comments : List (Vec ℕ Global)) (n token : ℕ) (new comment : Vec ℕ Global) → (n ≡ token → ⊥) →
    slice_get (slice_set comments n new) token ≡ Some comment → slice_get comments token ≡ Some comment
set_there [] n token new comment other there = there
set_there (x ∷ xs) zero zero new comment other there = absurd (other refl)
set_there (x ∷ xs) zero (suc token) new comment other there = there
set_there (x ∷ xs) (suc n) zero new comment other there = there
set_there (x ∷ xs) (suc n) (suc token) new comment other there =
    set_there xs n token new comment (λ same. other (ap suc same)) there

-- an element that stands at a token of the unit changes the comment of this token
pub one_more : (scene : Scene) (unit : ℕ) (before : List Listing) (listing : Listing) (comments : List (Vec ℕ Global))
    (at : PositionView) (n : ℕ) (old new : Vec ℕ Global) →
    slice_get scene.positions listing.var ≡ Some at → at.unit ≡ unit → at.token ≡ n → n < length comments →
    slice_get comments n ≡ Some old →
    new.items ≡ begun_with old.items ++ item_text scene at.path listing → AreComments scene unit before comments →
    AreComments scene unit (before ++ listing ∷ []) (slice_set comments n new)
one_more scene unit before listing comments at n old new found same_unit same_token within was now are token comment
    there =
    by_order (cases_order n token)
  where
    elsewhere : (n ≡ token → ⊥) → comment.items ≡ opened (items_at scene unit token (before ++ listing ∷ []))
    elsewhere other =
        are token comment (set_there comments n token new comment other there)
        ∙ ap opened (same_items scene unit token before listing
        (other_token scene unit token listing (slice_get scene.positions listing.var) at found
        (λ same. other (sym same_token ∙ same))))

    here : n ≡ token → comment.items ≡ opened (items_at scene unit token (before ++ listing ∷ []))
    here same =
        let At : ℕ → Type 0 = λ k. slice_get (slice_set comments n new) k ≡ Some comment in
        let items = items_at scene unit n before in
        let item = item_text scene at.path listing in
        ap (λ (v : Vec ℕ Global). v.items) (sym (set_here comments n new comment within (subst At (sym same) there)))
        ∙ now ∙ ap (λ (t : List ℕ). begun_with t ++ item) (are n old was) ∙ opened_more items item
        ∙ ap opened (ap (λ (more : List (List ℕ)). items ++ more)
        (sym (this_token scene unit n listing (slice_get scene.positions listing.var) at found same_unit same_token))
        ∙ sym (more_items scene unit n before listing))
        ∙ ap (λ k. opened (items_at scene unit k (before ++ listing ∷ []))) same

    by_order : (n ≡ token) ⊎ ((n < token) ⊎ (token < n))
        → comment.items ≡ opened (items_at scene unit token (before ++ listing ∷ []))
    by_order (inl same) = here same
    by_order (inr (inl low)) = elsewhere (λ same. omega (arith, low, same))
    by_order (inr (inr high)) = elsewhere (λ same. omega (arith, high, same))
