-- The storage words that stand so far.
use Rattle.std.specs.Prelude.{List, [], ◌∷◌, Option, None, Some}
use Rattle.c_words.specs.declared.kinds.Keyword.{Keyword}
use Rattle.c_words.specs.declared.kinds.Keyword.TheVariants as words
use Rattle.c_specs.specs.declared.storage.Storage.{Storage}
use Rattle.c_specs.specs.declared.storage.Storage.TheVariants.{Nothing, Typedef, Extern, Static, Auto, Register, Thread, ThreadStatic, ThreadExtern}

-- the storage of one keyword; none where it is no storage word
abbrev pub storing : Keyword → Storage
storing words.Typedef = Typedef
storing words.Extern = Extern
storing words.Static = Static
storing words.Auto = Auto
storing words.Register = Register
storing words.Thread = Thread
storing _ = Nothing

-- the storage words that stand
abbrev pub stored_words : Storage → List Keyword
stored_words Nothing = []
stored_words Typedef = words.Typedef ∷ []
stored_words Extern = words.Extern ∷ []
stored_words Static = words.Static ∷ []
stored_words Auto = words.Auto ∷ []
stored_words Register = words.Register ∷ []
stored_words Thread = words.Thread ∷ []
stored_words ThreadStatic = words.Thread ∷ words.Static ∷ []
stored_words ThreadExtern = words.Thread ∷ words.Extern ∷ []

-- the storage words that stand with one more, where they may stand together (6.7.1)
abbrev pub stored : Storage → Storage → Option Storage
stored Nothing Typedef = Some Typedef
stored Nothing Extern = Some Extern
stored Nothing Static = Some Static
stored Nothing Auto = Some Auto
stored Nothing Register = Some Register
stored Nothing Thread = Some Thread
stored Thread Static = Some ThreadStatic
stored Static Thread = Some ThreadStatic
stored Thread Extern = Some ThreadExtern
stored Extern Thread = Some ThreadExtern
stored _ _ = None
