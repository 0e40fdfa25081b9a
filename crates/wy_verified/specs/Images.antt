-- What is judged of an image file.
use Rattle.std.specs.Prelude.{ℕ, List}
use Rattle.wy_code.specs.declared.code.Code.{Code}
use Rattle.wy_image.specs.declared.typing.Signature.{Signature}
use Rattle.wy_image.specs.declared.typing.Typing.{Typing}

-- its code; the names of methods, of which code has a first part; the listed types; and what is stated of each
-- instance, the program last
pub record Image : Type 0 where
  pub code : Code
  pub names : List (List ℕ)
  pub types : List (List Signature)
  pub typings : List Typing
