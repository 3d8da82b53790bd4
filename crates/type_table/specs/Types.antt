-- Types as trees, with the annotation words that are written on each node (C99, 6.2.5 and 6.7.5; an array is a
-- pointer).
use Rattle.std.specs.Prelude.{ℕ, ◌+◌, List, [], Option, Some, None}

-- words, each by its unit and its token
abbrev pub Words : Type 0
Words = List (ℕ × ℕ)

mutual
  -- a type by its constructors, with the annotation words at each
  pub data CType : Type 0 where
    base : Words → CType
    void : Words → CType
    struct : Words → ℕ → CType
    pointer : Words → CType → CType
    -- parameters, result, and the words of what stands for further arguments, where there may be some
    function : Words → CTypes → CType → Option Words → CType

  -- the types of parameters
  pub data CTypes : Type 0 where
    no_types : CTypes
    more_types : CType → CTypes → CTypes

-- 1 where there is an ellipsis, else 0
abbrev pub one_for : Option Words → ℕ
one_for None = 0
one_for (Some ws) = 1

-- how many constructors there are, an ellipsis being one
abbrev mutual
  -- how many constructors a type has
  pub size : CType → ℕ
  size (base ws) = 1
  size (void ws) = 1
  size (struct ws s) = 1
  size (pointer ws t) = 1 + size t
  size (function ws ps r e) = 1 + (sizes ps + (size r + one_for e))

  -- how many constructors parameters have
  pub sizes : CTypes → ℕ
  sizes no_types = 0
  sizes (more_types t ts) = size t + sizes ts

-- the words that are written on a type
abbrev pub words_of : CType → Words
words_of (base ws) = ws
words_of (void ws) = ws
words_of (struct ws s) = ws
words_of (pointer ws t) = ws
words_of (function ws ps r e) = ws

-- the words before an ellipsis, none where there is no ellipsis
abbrev pub words_or_none : Option Words → Words
words_or_none None = []
words_or_none (Some ws) = ws

-- the words before the `...` of a function
abbrev pub ellipsis_words_of : CType → Words
ellipsis_words_of (base ws) = []
ellipsis_words_of (void ws) = []
ellipsis_words_of (struct ws s) = []
ellipsis_words_of (pointer ws t) = []
ellipsis_words_of (function ws ps r e) = words_or_none e
