-- Defaults: what a given default text says for a field of each type, and how that is recorded or refused. Assumes nothing.
--
-- An integer's text is that of specs/Integer.antt with the range of its type; a bool's is `true` or `false`; a string's is the
-- string itself, recorded by its place in the pool. An enum's is the name of one of its values, which only the linker can look
-- for. Types 10 and 11 have no defaults, and those of types 1, 2 and 12 are not read.
use Rattle.std.specs.Prelude.{ℕ, ◌-◌, ◌^◌, cond, List, [], ◌∷◌, ℤ, length, Option, Some, None, Result, Ok, Err}
use Rattle.lists.specs.Lists.{same}
use Rattle.names.specs.Integer.{unsigned, signed, as_integer, twos_complement, low_word, high_word}
use Rattle.names.specs.declared.runtime_type_box.RuntimeType.{RuntimeType}
use Rattle.names.specs.declared.runtime_type_box.RuntimeType.TheVariants as runtime
use Rattle.names.specs.declared.runtime_type_box.Words.{Words}
use Rattle.names.specs.declared.runtime_type_box.ReadDefault.{ReadDefault}
use Rattle.names.specs.declared.runtime_type_box.ReadDefault.TheVariants.{Integer, Text, ValueName}
use Rattle.names.specs.declared.runtime_type_box.DefaultRefused.{DefaultRefused}
use Rattle.names.specs.declared.runtime_type_box.DefaultRefused.TheVariants.{Unreadable, Unsupported}

-- what a default says, or why it is refused
abbrev pub DefaultRead : Type 0
DefaultRead = Result ReadDefault DefaultRefused

-- 64 bits as a low and a high word
abbrev pub words_of : ℕ → Words
words_of x = record { low = low_word x; high = high_word x }

-- an integer that was read, or none
unfoldable pub integer_default : Option ℤ → DefaultRead
unfolding twos_complement
integer_default None = Err Unreadable
integer_default (Some z) = Ok (Integer (words_of (twos_complement z)))

-- the texts `true` and `false`
abbrev pub true_text : List ℕ
true_text = 116 ∷ 114 ∷ 117 ∷ 101 ∷ []

abbrev pub false_text : List ℕ
false_text = 102 ∷ 97 ∷ 108 ∷ 115 ∷ 101 ∷ []

-- 1 or 0, or unreadable
unfoldable pub bool_default : List ℕ → DefaultRead
unfolding same
bool_default text = cond (same text true_text) (Ok (Integer (words_of 1))) (cond (same text false_text) (Ok (Integer (words_of 0))) (Err Unreadable))

-- what the text says for a field that holds such a value; `start` is where the text starts in its pool
unfoldable pub default_of : RuntimeType → List ℕ → ℕ → DefaultRead
unfolding integer_default signed unsigned as_integer bool_default
default_of runtime.I32 text start = integer_default (signed (2 ^ 31) text)
default_of runtime.I64 text start = integer_default (signed (2 ^ 63) text)
default_of runtime.U32 text start = integer_default (as_integer (unsigned (2 ^ 32 - 1) text))
default_of runtime.U64 text start = integer_default (as_integer (unsigned (2 ^ 64 - 1) text))
default_of runtime.Bool text start = bool_default text
default_of runtime.String text start = Ok (Text (record { low = start; high = low_word (length text) }))
default_of runtime.Enum text start = Ok ValueName
default_of runtime.Message text start = Err Unreadable
default_of runtime.F32 text start = Err Unsupported
default_of runtime.F64 text start = Err Unsupported
default_of runtime.VecU8 text start = Err Unsupported

-- the default kind of what was read: 1 integer or bool, 3 text, 4 enum, if the linker finds the value. A default that is refused has
-- none; kind 0 is that of a field with no default, which does not come here
abbrev pub default_kind : DefaultRead → Option ℕ
default_kind (Ok (Integer w)) = Some 1
default_kind (Ok (Text w)) = Some 3
default_kind (Ok ValueName) = Some 4
default_kind (Err Unreadable) = None
default_kind (Err Unsupported) = None

-- its low and high word; those of an enum are the linker's to find
abbrev pub default_words : DefaultRead → Option Words
default_words (Ok (Integer w)) = Some w
default_words (Ok (Text w)) = Some w
default_words (Ok ValueName) = None
default_words (Err Unreadable) = None
default_words (Err Unsupported) = None

-- the number of the refusal: 12 unreadable or on types 10 and 11, 13 on types 1, 2 and 12. An enum's value that is not found is 12
-- too, and an enum that is not found 16: both are the linker's to say
abbrev pub default_refusal : DefaultRead → Option ℕ
default_refusal (Ok (Integer w)) = None
default_refusal (Ok (Text w)) = None
default_refusal (Ok ValueName) = None
default_refusal (Err Unreadable) = Some 12
default_refusal (Err Unsupported) = Some 13
