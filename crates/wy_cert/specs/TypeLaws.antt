-- Types: a byte for the form, and what the form has.
use Rattle.std.proofs.Common.{◌≡◌, ℕ, ◌≤◌, List, ◌++◌, length, refl, ap, arith, lit≤}
use Rattle.wy_spelling.specs.ListLaws.{lists_apart}
use Rattle.wy_spelling.specs.NumberLaws.{numbers_apart}
use Rattle.wy_spelling.specs.PairLaws.{pairs_apart as both_apart}
use Rattle.wy_spelling.specs.Spelling.{AreApart, AreBoth, AreSpelled, IsNumber, both_bytes, list_bytes, number_bytes}
use Rattle.wy_cert.specs.Spelled.{IsSetSpelled, IsTypeSpelled, set_bytes, type_bytes}
use Rattle.wy_cert.specs.declared.certificate.CertType.{CertType}
use Rattle.wy_cert.specs.declared.certificate.CertType.TheVariants as typ

pub sets_apart : AreApart IsSetSpelled set_bytes
sets_apart = lists_apart IsNumber number_bytes numbers_apart

pub named_apart : AreApart (AreBoth IsNumber (AreSpelled IsSetSpelled)) (both_bytes number_bytes (list_bytes set_bytes))
named_apart = both_apart IsNumber number_bytes (AreSpelled IsSetSpelled) (list_bytes set_bytes) numbers_apart (lists_apart IsSetSpelled set_bytes sets_apart)

pub at_apart : AreApart (AreBoth IsNumber IsSetSpelled) (both_bytes number_bytes set_bytes)
at_apart = both_apart IsNumber number_bytes IsSetSpelled set_bytes numbers_apart sets_apart

pub types_filled : (t : CertType) → 1 ≤ length (type_bytes t)
types_filled typ.Int = lit≤ tt
types_filled typ.Bool = lit≤ tt
types_filled typ.Text = lit≤ tt
types_filled typ.Unit = lit≤ tt
types_filled (typ.Named d es) = omega arith
types_filled (typ.At d s) = omega arith
types_filled (typ.Own l) = lit≤ tt

pub types_apart : AreApart IsTypeSpelled type_bytes
types_apart typ.Int typ.Int others more is_x is_y e = (refl, cc)
types_apart typ.Int y others more is_x is_y e = absurd cc
types_apart typ.Bool typ.Bool others more is_x is_y e = (refl, cc)
types_apart typ.Bool y others more is_x is_y e = absurd cc
types_apart typ.Text typ.Text others more is_x is_y e = (refl, cc)
types_apart typ.Text y others more is_x is_y e = absurd cc
types_apart typ.Unit typ.Unit others more is_x is_y e = (refl, cc)
types_apart typ.Unit y others more is_x is_y e = absurd cc
types_apart (typ.Named d es) (typ.Named f fs) others more is_x is_y e =
    let behind : both_bytes number_bytes (list_bytes set_bytes) (d, es) ++ others ≡ both_bytes number_bytes (list_bytes set_bytes) (f, fs) ++ more = cc in
    let both = named_apart (d, es) (f, fs) others more is_x is_y behind in
    (ap (λ (p : ℕ × List (List ℕ)). typ.Named p.0 p.1) both.0, both.1)
types_apart (typ.Named d es) y others more is_x is_y e = absurd cc
types_apart (typ.At d s) (typ.At f t) others more is_x is_y e =
    let behind : both_bytes number_bytes set_bytes (d, s) ++ others ≡ both_bytes number_bytes set_bytes (f, t) ++ more = cc in
    let both = at_apart (d, s) (f, t) others more is_x is_y behind in
    (ap (λ (p : ℕ × List ℕ). typ.At p.0 p.1) both.0, both.1)
types_apart (typ.At d s) y others more is_x is_y e = absurd cc
types_apart (typ.Own l) (typ.Own m) others more is_x is_y e =
    let behind : number_bytes l ++ others ≡ number_bytes m ++ more = cc in
    let both = numbers_apart l m others more is_x is_y behind in
    (ap (λ (n : ℕ). typ.Own n) both.0, both.1)
types_apart (typ.Own l) y others more is_x is_y e = absurd cc
