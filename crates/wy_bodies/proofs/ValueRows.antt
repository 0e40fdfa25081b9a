-- Values one after another.
use Rattle.std.proofs.Common.{◌≡◌, List, [], ◌∷◌, ◌++◌, refl, sym, ap, ap₂, ◌∙◌}
use Rattle.wy_text.specs.declared.fault.Place.{Place}
use Rattle.wy_types.specs.declared.code.Value.{Value}
use Rattle.wy_types.specs.Code as plain
use Rattle.wy_types.specs.View.{value_of, values_of}
use Rattle.wy_bodies.specs.ValueRows.{values_then}

pub values_then-append : (vs : List Value) (v : Value) (rest : plain.Values) → values_then (vs ++ v ∷ []) rest ≡ values_then vs (plain.more (value_of v) rest)
values_then-append [] v rest = refl
values_then-append (w ∷ vs) v rest = ap (plain.more (value_of w)) (values_then-append vs v rest)

pub values_then-none : (vs : List Value) → values_then vs plain.none ≡ values_of vs
values_then-none [] = refl
values_then-none (v ∷ vs) = ap (plain.more (value_of v)) (values_then-none vs)

-- one value more in front of those that are left
pub values_turn : (vs ws : List Value) (v : Value) (whole next rest : plain.Values) (x : plain.Value) → ws ≡ vs ++ v ∷ [] → value_of v ≡ x → next ≡ plain.more x rest → values_then vs next ≡ whole → values_then ws rest ≡ whole
values_turn vs ws v whole next rest x pushed is at h =
    ap (λ l. values_then l rest) pushed ∙ values_then-append vs v rest ∙ ap (λ y. values_then vs (plain.more y rest)) is ∙ ap (values_then vs) (sym at) ∙ h

-- one value more behind others
pub values_pushed : (vs ws : List Value) (v : Value) (x : plain.Value) → ws ≡ vs ++ v ∷ [] → value_of v ≡ x → (rest : plain.Values) → values_then ws rest ≡ values_then vs (plain.more x rest)
values_pushed vs ws v x pushed is rest =
    ap (λ l. values_then l rest) pushed ∙ values_then-append vs v rest ∙ ap (λ y. values_then vs (plain.more y rest)) is

-- one value, two and three in a list that was empty
pub row_one : (vs ps : List Value) (x : plain.Value) → vs ≡ [] → ((rest : plain.Values) → values_then ps rest ≡ values_then vs (plain.more x rest)) → values_of ps ≡ plain.more x plain.none
row_one vs ps x none a = sym (values_then-none ps) ∙ a plain.none ∙ ap (λ l. values_then l (plain.more x plain.none)) none

pub row_two : (vs ps qs : List Value) (x y : plain.Value) → vs ≡ [] → ((rest : plain.Values) → values_then ps rest ≡ values_then vs (plain.more x rest)) →
    ((rest : plain.Values) → values_then qs rest ≡ values_then ps (plain.more y rest)) → values_of qs ≡ plain.more x (plain.more y plain.none)
row_two vs ps qs x y none a b =
    let rest = plain.more y plain.none in
    sym (values_then-none qs) ∙ b plain.none ∙ a rest ∙ ap (λ l. values_then l (plain.more x rest)) none

pub row_three : (vs ps qs rs : List Value) (x y z : plain.Value) → vs ≡ [] → ((rest : plain.Values) → values_then ps rest ≡ values_then vs (plain.more x rest)) →
    ((rest : plain.Values) → values_then qs rest ≡ values_then ps (plain.more y rest)) → ((rest : plain.Values) → values_then rs rest ≡ values_then qs (plain.more z rest)) →
    values_of rs ≡ plain.more x (plain.more y (plain.more z plain.none))
row_three vs ps qs rs x y z none a b d =
    let rest = plain.more z plain.none in
    sym (values_then-none rs) ∙ d plain.none ∙ b rest ∙ a (plain.more y rest) ∙ ap (λ l. values_then l (plain.more x (plain.more y rest))) none

-- an `if` of equal parts
pub if_of : {test test' : plain.Expr} {first first' second second' : plain.Block} (place : Place) → test ≡ test' → first ≡ first' → second ≡ second' → plain.If place test first second ≡ plain.If place test' first' second'
if_of {test} {test'} {first} {first'} {second} {second'} place a b d = ap (λ x. plain.If place x first second) a ∙ ap₂ (plain.If place test') b d
