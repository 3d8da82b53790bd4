-- The table of storage words, looked through word by word.
use Rattle.std.proofs.Common.{◌≡◌, ℕ, false, [], ◌∷◌, ◌++◌, length, slice_get, insert, Option, Some, None, refl}
use Rattle.c_words.specs.declared.kinds.Keyword.{Keyword}
use Rattle.c_words.specs.declared.kinds.Keyword.TheVariants as words
use Rattle.c_tree.specs.Specifiers.{storages}
use Rattle.c_specs.specs.declared.storage.Storage.{Storage}
use Rattle.c_specs.specs.declared.storage.Storage.TheVariants.{Nothing, Typedef, Extern, Static, Auto, Register, Thread, ThreadStatic, ThreadExtern}
use Rattle.c_specs.specs.Storage.{stored, stored_words}
use Rattle.c_specs.proofs.Counting.{begins}
use Rattle.c_specs.proofs.Codes.{storage_code}

-- where the words stand in the table
abbrev pub place : Storage → ℕ
place Nothing = 0
place Typedef = 1
place Extern = 2
place Static = 3
place Auto = 4
place Register = 5
place Thread = 6
place ThreadStatic = 7
place ThreadExtern = 8

-- the words of each storage stand in the table at its place
pub placed : (s : Storage) → slice_get storages (place s) ≡ Some (stored_words s)
placed Nothing = refl
placed Typedef = refl
placed Extern = refl
placed Static = refl
placed Auto = refl
placed Register = refl
placed Thread = refl
placed ThreadStatic = refl
placed ThreadExtern = refl

-- a word of storage, or another
abbrev pub word_of : Storage → Keyword
word_of Typedef = words.Typedef
word_of Extern = words.Extern
word_of Static = words.Static
word_of Auto = words.Auto
word_of Register = words.Register
word_of Thread = words.Thread
word_of _ = words.While

-- where a word is put
abbrev pub room : Storage → Storage → ℕ
room s Thread = 0
room s w = length (stored_words s)

abbrev pub Stored : Storage → Storage → Option Storage → Type 0
Stored s w None = begins storage_code storages (stored_words s ++ word_of w ∷ []) ≡ false
Stored s w (Some after) = insert (stored_words s) (room s w) (word_of w) ≡ stored_words after

-- a storage word joins others to the words of the next storage, or no set has it with them
pub stored_tells : (s w : Storage) → Stored s w (stored s w)
stored_tells Nothing Nothing = refl
stored_tells Nothing Typedef = refl
stored_tells Nothing Extern = refl
stored_tells Nothing Static = refl
stored_tells Nothing Auto = refl
stored_tells Nothing Register = refl
stored_tells Nothing Thread = refl
stored_tells Nothing ThreadStatic = refl
stored_tells Nothing ThreadExtern = refl
stored_tells Typedef Nothing = refl
stored_tells Typedef Typedef = refl
stored_tells Typedef Extern = refl
stored_tells Typedef Static = refl
stored_tells Typedef Auto = refl
stored_tells Typedef Register = refl
stored_tells Typedef Thread = refl
stored_tells Typedef ThreadStatic = refl
stored_tells Typedef ThreadExtern = refl
stored_tells Extern Nothing = refl
stored_tells Extern Typedef = refl
stored_tells Extern Extern = refl
stored_tells Extern Static = refl
stored_tells Extern Auto = refl
stored_tells Extern Register = refl
stored_tells Extern Thread = refl
stored_tells Extern ThreadStatic = refl
stored_tells Extern ThreadExtern = refl
stored_tells Static Nothing = refl
stored_tells Static Typedef = refl
stored_tells Static Extern = refl
stored_tells Static Static = refl
stored_tells Static Auto = refl
stored_tells Static Register = refl
stored_tells Static Thread = refl
stored_tells Static ThreadStatic = refl
stored_tells Static ThreadExtern = refl
stored_tells Auto Nothing = refl
stored_tells Auto Typedef = refl
stored_tells Auto Extern = refl
stored_tells Auto Static = refl
stored_tells Auto Auto = refl
stored_tells Auto Register = refl
stored_tells Auto Thread = refl
stored_tells Auto ThreadStatic = refl
stored_tells Auto ThreadExtern = refl
stored_tells Register Nothing = refl
stored_tells Register Typedef = refl
stored_tells Register Extern = refl
stored_tells Register Static = refl
stored_tells Register Auto = refl
stored_tells Register Register = refl
stored_tells Register Thread = refl
stored_tells Register ThreadStatic = refl
stored_tells Register ThreadExtern = refl
stored_tells Thread Nothing = refl
stored_tells Thread Typedef = refl
stored_tells Thread Extern = refl
stored_tells Thread Static = refl
stored_tells Thread Auto = refl
stored_tells Thread Register = refl
stored_tells Thread Thread = refl
stored_tells Thread ThreadStatic = refl
stored_tells Thread ThreadExtern = refl
stored_tells ThreadStatic Nothing = refl
stored_tells ThreadStatic Typedef = refl
stored_tells ThreadStatic Extern = refl
stored_tells ThreadStatic Static = refl
stored_tells ThreadStatic Auto = refl
stored_tells ThreadStatic Register = refl
stored_tells ThreadStatic Thread = refl
stored_tells ThreadStatic ThreadStatic = refl
stored_tells ThreadStatic ThreadExtern = refl
stored_tells ThreadExtern Nothing = refl
stored_tells ThreadExtern Typedef = refl
stored_tells ThreadExtern Extern = refl
stored_tells ThreadExtern Static = refl
stored_tells ThreadExtern Auto = refl
stored_tells ThreadExtern Register = refl
stored_tells ThreadExtern Thread = refl
stored_tells ThreadExtern ThreadStatic = refl
stored_tells ThreadExtern ThreadExtern = refl
