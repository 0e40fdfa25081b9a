-- How variables are keys of tables.
use Rattle.std.specs.Prelude.{ℕ, Bool, true, false, ◌&&◌, nat_eq}
use Rattle.std.specs.Bool.{beq}
use Rattle.wy_types.specs.declared.code.Variable.{Variable}
use Rattle.wy_types.specs.declared.code.Variable.TheVariants.{Parameter, Local}

-- whether it is a parameter, its body's number or its own, and its index
abbrev pub key_of : Variable → Bool × ℕ × ℕ
key_of (Parameter body i) = (true, body, i)
key_of (Local n) = (false, n, 0)

abbrev pub same_key : Bool × ℕ × ℕ → Bool × ℕ × ℕ → Bool
same_key x y = (beq x.0 y.0 && nat_eq x.1 y.1) && nat_eq x.2 y.2
