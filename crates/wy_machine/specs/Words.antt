-- What a word of the machine means.
use Rattle.std.specs.Prelude.{◌≡◌, ℕ, ℤ, Bool, Option, Some, None, refl}
use Rattle.wy_code.specs.Stores.{Word, Int, Truth, Nothing, Text, Object, Grant}
use Rattle.wy_machine.specs.declared.word.WordKind.{WordKind}
use Rattle.wy_machine.specs.declared.word.WordKind.TheVariants as kind

abbrev pub word_of : WordKind → Word
word_of (kind.Int n) = Int n
word_of (kind.Truth b) = Truth b
word_of kind.Unit = Nothing
word_of (kind.Text t) = Text t
word_of (kind.Object a) = Object a
word_of (kind.Grant g) = Grant g

abbrev pub kind_of : Word → WordKind
kind_of (Int n) = kind.Int n
kind_of (Truth b) = kind.Truth b
kind_of Nothing = kind.Unit
kind_of (Text t) = kind.Text t
kind_of (Object a) = kind.Object a
kind_of (Grant g) = kind.Grant g

pub kind_of-word_of : (k : WordKind) → kind_of (word_of k) ≡ k
kind_of-word_of (kind.Int n) = refl
kind_of-word_of (kind.Truth b) = refl
kind_of-word_of kind.Unit = refl
kind_of-word_of (kind.Text t) = refl
kind_of-word_of (kind.Object a) = refl
kind_of-word_of (kind.Grant g) = refl

-- the number, the truth value, or the number of a text or an object that a word is
abbrev pub int_of : Word → Option ℤ
int_of (Int n) = Some n
int_of (Truth b) = None
int_of Nothing = None
int_of (Text t) = None
int_of (Object a) = None
int_of (Grant g) = None

abbrev pub truth_of : Word → Option Bool
truth_of (Int n) = None
truth_of (Truth b) = Some b
truth_of Nothing = None
truth_of (Text t) = None
truth_of (Object a) = None
truth_of (Grant g) = None

abbrev pub text_of : Word → Option ℕ
text_of (Int n) = None
text_of (Truth b) = None
text_of Nothing = None
text_of (Text t) = Some t
text_of (Object a) = None
text_of (Grant g) = None

abbrev pub object_of : Word → Option ℕ
object_of (Int n) = None
object_of (Truth b) = None
object_of Nothing = None
object_of (Text t) = None
object_of (Object a) = Some a
object_of (Grant g) = None
