-- What some lists of words mean, worked out by hand from the rules.
use Rattle.std.proofs.Common.{refl, ◌≡◌, ℕ, zero, suc, List, [], ◌∷◌, Some, None, true}
use Rattle.std.specs.Prelude.{codes}
use Rattle.cqual_words.specs.Words.{Text, Annotate, Ask, Certify, Check, Generate, Infer, Sign, Verify, Who, files_of, meaning_of}
use Rattle.cqual_words.specs.Words.{pieces_from}

-- options in any order, with the value apart or attached
apart : meaning_of (codes "--lattice" ∷ codes "l.q" ∷ codes "s.c" ∷ [])
    ≡ Some (Ask Infer (files_of (codes "l.q") None (codes "s.c" ∷ [])))
unfolding pieces_from
apart = refl

attached : meaning_of (codes "--prelude=p.h" ∷ codes "s.c" ∷ codes "--lattice=l.q" ∷ [])
    ≡ Some (Ask Infer (files_of (codes "l.q") (Some (codes "p.h")) (codes "s.c" ∷ [])))
unfolding pieces_from
attached = refl

first_equals : meaning_of (codes "--lattice==x" ∷ codes "s.c" ∷ [])
    ≡ Some (Ask Infer (files_of (codes "=x") None (codes "s.c" ∷ [])))
unfolding pieces_from
first_equals = refl

ended : meaning_of (codes "--annotate" ∷ codes "--lattice=l.q" ∷ codes "--" ∷ codes "s.c" ∷ [])
    ≡ Some (Ask Annotate (files_of (codes "l.q") None (codes "s.c" ∷ [])))
unfolding pieces_from
ended = refl

checked : meaning_of (codes "--check" ∷ codes "r" ∷ codes "--lattice=l.q" ∷ codes "s.c" ∷ [])
    ≡ Some (Ask (Check (codes "r")) (files_of (codes "l.q") None (codes "s.c" ∷ [])))
unfolding pieces_from
checked = refl

certified : meaning_of (codes "--certify" ∷ codes "--lattice=l.q" ∷ codes "s.c" ∷ [])
    ≡ Some (Ask Certify (files_of (codes "l.q") None (codes "s.c" ∷ [])))
unfolding pieces_from
certified = refl

verified : meaning_of (codes "--lattice=l.q" ∷ codes "--verify" ∷ codes "c" ∷ codes "s.c" ∷ [])
    ≡ Some (Ask (Verify (codes "c")) (files_of (codes "l.q") None (codes "s.c" ∷ [])))
unfolding pieces_from
verified = refl

asked_who : meaning_of (codes "--who" ∷ codes "b" ∷ codes "--lattice=l.q" ∷ codes "s.c" ∷ [])
    ≡ Some (Ask (Who (codes "b")) (files_of (codes "l.q") None (codes "s.c" ∷ [])))
unfolding pieces_from
asked_who = refl

asked_to_sign : meaning_of (codes "s.c" ∷ codes "--signatures" ∷ codes "--lattice=l.q" ∷ codes "t.c" ∷ [])
    ≡ Some (Ask Sign (files_of (codes "l.q") None (codes "s.c" ∷ codes "t.c" ∷ [])))
unfolding pieces_from
asked_to_sign = refl

-- sources before, between and behind the options, and behind `--`; one name twice is two sources
several : meaning_of
    (codes "s.c" ∷ codes "--lattice" ∷ codes "l.q" ∷ codes "t.c" ∷ codes "--prelude=p.h" ∷ codes "s.c" ∷ codes "--"
    ∷ codes "u.c" ∷ [])
    ≡ Some (Ask Infer
    (files_of (codes "l.q") (Some (codes "p.h")) (codes "s.c" ∷ codes "t.c" ∷ codes "s.c" ∷ codes "u.c" ∷ [])))
unfolding pieces_from
several = refl

checked_several : meaning_of (codes "s.c" ∷ codes "t.c" ∷ codes "--check=r" ∷ codes "--lattice=l.q" ∷ [])
    ≡ Some (Ask (Check (codes "r")) (files_of (codes "l.q") None (codes "s.c" ∷ codes "t.c" ∷ [])))
unfolding pieces_from
checked_several = refl

certified_several : meaning_of (codes "s.c" ∷ codes "--lattice=l.q" ∷ codes "--certify" ∷ codes "t.c" ∷ [])
    ≡ Some (Ask Certify (files_of (codes "l.q") None (codes "s.c" ∷ codes "t.c" ∷ [])))
unfolding pieces_from
certified_several = refl

verified_several : meaning_of
    (codes "--verify=c" ∷ codes "s.c" ∷ codes "--prelude=p.h" ∷ codes "--lattice=l.q" ∷ codes "--" ∷ codes "t.c" ∷ [])
    ≡ Some (Ask (Verify (codes "c")) (files_of (codes "l.q") (Some (codes "p.h")) (codes "s.c" ∷ codes "t.c" ∷ [])))
unfolding pieces_from
verified_several = refl

-- the name is any text with a meaning, also one that no identifier has
who_several : meaning_of
    (codes "s.c" ∷ codes "--who=a b=" ∷ codes "--prelude=p.h" ∷ codes "--lattice=l.q" ∷ codes "t.c" ∷ [])
    ≡ Some (Ask (Who (codes "a b=")) (files_of (codes "l.q") (Some (codes "p.h")) (codes "s.c" ∷ codes "t.c" ∷ [])))
unfolding pieces_from
who_several = refl

-- one source with no meaning among others
empty_source : meaning_of (codes "--lattice=l.q" ∷ codes "s.c" ∷ [] ∷ codes "t.c" ∷ []) ≡ None
unfolding pieces_from
empty_source = refl

hyphen_source : meaning_of (codes "--lattice=l.q" ∷ codes "s.c" ∷ codes "--" ∷ codes "-t.c" ∷ []) ≡ None
unfolding pieces_from
hyphen_source = refl

-- one source where it is annotated, and none where the tool makes it
annotated_several : meaning_of (codes "--annotate" ∷ codes "--lattice=l.q" ∷ codes "s.c" ∷ codes "t.c" ∷ []) ≡ None
unfolding pieces_from
annotated_several = refl

no_source : meaning_of (codes "--lattice=l.q" ∷ []) ≡ None
unfolding pieces_from
no_source = refl

made_with_source : meaning_of (codes "--generate=1" ∷ codes "s.c" ∷ []) ≡ None
unfolding pieces_from
made_with_source = refl

-- at most 256
abbrev many : ℕ → List Text
many zero = []
many (suc n) = codes "s.c" ∷ many n

most_sources : meaning_of (codes "--lattice=l.q" ∷ many 256) ≡ Some (Ask Infer (files_of (codes "l.q") None (many 256)))
unfolding pieces_from
most_sources = refl

too_many_sources : meaning_of (codes "--lattice=l.q" ∷ many 257) ≡ None
unfolding pieces_from
too_many_sources = refl

made : meaning_of (codes "--generate=1000" ∷ []) ≡ Some (Generate 1000)
unfolding pieces_from
made = refl

-- no numeral of 1 to 1000
too_great : meaning_of (codes "--generate=1001" ∷ []) ≡ None
unfolding pieces_from
too_great = refl

nought_first : meaning_of (codes "--generate=01" ∷ []) ≡ None
unfolding pieces_from
nought_first = refl

signed : meaning_of (codes "--generate=+1" ∷ []) ≡ None
unfolding pieces_from
signed = refl

-- no value, a value that begins with a hyphen, a part that stands again
no_value : meaning_of (codes "s.c" ∷ codes "--lattice" ∷ []) ≡ None
unfolding pieces_from
no_value = refl

empty_value : meaning_of (codes "--lattice=" ∷ codes "s.c" ∷ []) ≡ None
unfolding pieces_from
empty_value = refl

hyphen_value : meaning_of (codes "--lattice" ∷ codes "--check" ∷ codes "r" ∷ codes "s.c" ∷ []) ≡ None
unfolding pieces_from
hyphen_value = refl

again : meaning_of (codes "--lattice=l.q" ∷ codes "--lattice=l.q" ∷ codes "s.c" ∷ []) ≡ None
unfolding pieces_from
again = refl

-- a flag with a value, a name that is cut short, parts that do not go together
flag_value : meaning_of (codes "--lattice=l.q" ∷ codes "s.c" ∷ codes "--annotate=" ∷ []) ≡ None
unfolding pieces_from
flag_value = refl

cut_short : meaning_of (codes "--latt=l.q" ∷ codes "s.c" ∷ []) ≡ None
unfolding pieces_from
cut_short = refl

both_reports : meaning_of (codes "--lattice=l.q" ∷ codes "s.c" ∷ codes "--annotate" ∷ codes "--check=r" ∷ []) ≡ None
unfolding pieces_from
both_reports = refl

certified_and_verified : meaning_of
    (codes "--lattice=l.q" ∷ codes "s.c" ∷ codes "--certify" ∷ codes "--verify=c" ∷ []) ≡ None
unfolding pieces_from
certified_and_verified = refl

certified_and_annotated : meaning_of
    (codes "--lattice=l.q" ∷ codes "s.c" ∷ codes "--certify" ∷ codes "--annotate" ∷ []) ≡ None
unfolding pieces_from
certified_and_annotated = refl

verified_and_annotated : meaning_of
    (codes "--lattice=l.q" ∷ codes "s.c" ∷ codes "--verify=c" ∷ codes "--annotate" ∷ []) ≡ None
unfolding pieces_from
verified_and_annotated = refl

checked_and_verified : meaning_of
    (codes "--lattice=l.q" ∷ codes "s.c" ∷ codes "--check=r" ∷ codes "--verify=c" ∷ []) ≡ None
unfolding pieces_from
checked_and_verified = refl

who_and_annotated : meaning_of (codes "--lattice=l.q" ∷ codes "s.c" ∷ codes "--who=b" ∷ codes "--annotate" ∷ []) ≡ None
unfolding pieces_from
who_and_annotated = refl

who_and_certified : meaning_of (codes "--lattice=l.q" ∷ codes "s.c" ∷ codes "--who=b" ∷ codes "--certify" ∷ []) ≡ None
unfolding pieces_from
who_and_certified = refl

who_and_checked : meaning_of (codes "--lattice=l.q" ∷ codes "s.c" ∷ codes "--who=b" ∷ codes "--check=r" ∷ []) ≡ None
unfolding pieces_from
who_and_checked = refl

who_and_verified : meaning_of (codes "--lattice=l.q" ∷ codes "s.c" ∷ codes "--who=b" ∷ codes "--verify=c" ∷ []) ≡ None
unfolding pieces_from
who_and_verified = refl

signed_and_certified : meaning_of
    (codes "--lattice=l.q" ∷ codes "s.c" ∷ codes "--signatures" ∷ codes "--certify" ∷ []) ≡ None
unfolding pieces_from
signed_and_certified = refl

signed_and_who : meaning_of (codes "--lattice=l.q" ∷ codes "s.c" ∷ codes "--signatures" ∷ codes "--who=b" ∷ []) ≡ None
unfolding pieces_from
signed_and_who = refl

-- signatures are of sources alone
signed_with_prelude : meaning_of
    (codes "--lattice=l.q" ∷ codes "--prelude=p.h" ∷ codes "s.c" ∷ codes "--signatures" ∷ []) ≡ None
unfolding pieces_from
signed_with_prelude = refl

made_and_certified : meaning_of (codes "--generate=1" ∷ codes "--certify" ∷ []) ≡ None
unfolding pieces_from
made_and_certified = refl

made_and_verified : meaning_of (codes "--generate=1" ∷ codes "--verify=c" ∷ []) ≡ None
unfolding pieces_from
made_and_verified = refl

made_and_signed : meaning_of (codes "--generate=1" ∷ codes "--signatures" ∷ []) ≡ None
unfolding pieces_from
made_and_signed = refl

made_and_who : meaning_of (codes "--generate=1" ∷ codes "--who=b" ∷ []) ≡ None
unfolding pieces_from
made_and_who = refl

-- no name, a name that begins with a hyphen, a certificate that is not named, a flag with a value, a flag that stands
-- again
empty_name : meaning_of (codes "--lattice=l.q" ∷ codes "s.c" ∷ codes "--who=" ∷ []) ≡ None
unfolding pieces_from
empty_name = refl

hyphen_name : meaning_of (codes "--lattice=l.q" ∷ codes "s.c" ∷ codes "--who" ∷ codes "-b" ∷ []) ≡ None
unfolding pieces_from
hyphen_name = refl

certificate_missing : meaning_of (codes "--lattice=l.q" ∷ codes "s.c" ∷ codes "--verify" ∷ []) ≡ None
unfolding pieces_from
certificate_missing = refl

certify_value : meaning_of (codes "--lattice=l.q" ∷ codes "s.c" ∷ codes "--certify=c" ∷ []) ≡ None
unfolding pieces_from
certify_value = refl

certify_again : meaning_of (codes "--lattice=l.q" ∷ codes "--certify" ∷ codes "s.c" ∷ codes "--certify" ∷ []) ≡ None
unfolding pieces_from
certify_again = refl

-- wider C: the first word says so, once, and no other word does
first_wide : meaning_of (codes "--wide" ∷ codes "--lattice=l.q" ∷ codes "s.c" ∷ [])
    ≡ Some (Ask Infer (record (files_of (codes "l.q") None (codes "s.c" ∷ [])) { wide = true }))
unfolding pieces_from
first_wide = refl

wide_again : meaning_of (codes "--wide" ∷ codes "--wide" ∷ codes "--lattice=l.q" ∷ codes "s.c" ∷ []) ≡ None
unfolding pieces_from
wide_again = refl

wide_behind : meaning_of (codes "--lattice=l.q" ∷ codes "--wide" ∷ codes "s.c" ∷ []) ≡ None
unfolding pieces_from
wide_behind = refl

wide_as_a_value : meaning_of (codes "--lattice" ∷ codes "--wide" ∷ codes "s.c" ∷ []) ≡ None
unfolding pieces_from
wide_as_a_value = refl

wide_with_a_value : meaning_of (codes "--wide=1" ∷ codes "--lattice=l.q" ∷ codes "s.c" ∷ []) ≡ None
unfolding pieces_from
wide_with_a_value = refl

wide_and_made : meaning_of (codes "--wide" ∷ codes "--generate=7" ∷ []) ≡ Some (Generate 7)
unfolding pieces_from
wide_and_made = refl
