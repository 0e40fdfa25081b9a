-- One member, and one argument, more, as loops over them go.
use Rattle.std.proofs.Common.{◌≡◌, ℕ, zero, suc, ◌+◌, ◌<◌, List, [], ◌∷◌, ◌++◌, length, get_or, drop, refl, sym, ap, ◌∙◌, arith, Option, Some, None, Bool, true, false, add-one, append_assoc}
use Rattle.std.specs.Prelude.{slice_get, bytes_eq, if◌then◌else◌}
use Rattle.std.specs.Option.{is_some}
use Rattle.wy_types.specs.declared.types.TypeRef.{TypeRef}
use Rattle.wy_types.specs.declared.resolved.OwnName.{OwnName}
use Rattle.wy_types.specs.Program.{Program}
use Rattle.wy_types.specs.Ground.{abstract_set, member_set, argument_sets, arguments_sets}

------------------------------------------------------------
-- Abstract members

abstract_none : (name : List ℕ) (ms : List (List ℕ)) → abstract_set name ms [] ≡ None
abstract_none name [] = refl
abstract_none name (m ∷ ms) = refl

not_first : (name m s : List ℕ) (ms sets : List (List ℕ)) → bytes_eq m name ≡ false → abstract_set name (m ∷ ms) (s ∷ sets) ≡ abstract_set name ms sets
not_first name m s ms sets other = ap (λ (b : Bool). if b then Some s else abstract_set name ms sets) other

abstract_next : (name : List ℕ) (ms sets : List (List ℕ)) (i : ℕ) (m : List ℕ) → i < length ms → m ≡ get_or ms i m → bytes_eq m name ≡ false →
    abstract_set name (drop (suc i) ms) (drop (suc i) sets) ≡ abstract_set name (drop i ms) (drop i sets)
abstract_next name [] sets i m lt is other = absurd (omega arith)
abstract_next name (n ∷ ms) [] zero m lt is other = abstract_none name ms
abstract_next name (n ∷ ms) (s ∷ sets) zero m lt is other = sym (not_first name n s ms sets (ap (λ (v : List ℕ). bytes_eq v name) (sym is) ∙ other))
abstract_next name (n ∷ ms) [] (suc i) m lt is other = abstract_none name (drop (suc i) ms) ∙ sym (abstract_none name (drop i ms))
abstract_next name (n ∷ ms) (s ∷ sets) (suc i) m lt is other = abstract_next name ms sets i m (omega arith) is other

-- the member at a place has another name
pub abstract_more : (name : List ℕ) (ms sets : List (List ℕ)) (i : ℕ) (m : List ℕ) → i < length ms → m ≡ get_or ms i m → bytes_eq m name ≡ false →
    abstract_set name (drop (i + 1) ms) (drop (i + 1) sets) ≡ abstract_set name (drop i ms) (drop i sets)
abstract_more name ms sets i m lt is other = rw add-one (abstract_next name ms sets i m lt is other)

------------------------------------------------------------
-- Sets of arguments

module _ (p : Program) (outer : List OwnName) where
  sets_none : (ns : List OwnName) → arguments_sets p outer ns [] ≡ []
  sets_none [] = refl
  sets_none (n ∷ ns) = refl

  sets_next : (ns : List OwnName) (arguments : List ℕ) (i : ℕ) (n : OwnName) (a : ℕ) → i < length ns → n ≡ get_or ns i n → slice_get arguments i ≡ Some a →
      arguments_sets p outer (drop i ns) (drop i arguments) ≡ argument_sets p outer n.origin n a ++ arguments_sets p outer (drop (suc i) ns) (drop (suc i) arguments)
  sets_next [] arguments i n a lt is e = absurd (omega arith)
  sets_next (m ∷ ns) [] i n a lt is e = absurd (cc)
  sets_next (m ∷ ns) (b ∷ arguments) zero n a lt is e =
      let same : b ≡ a = cc in
      ap (λ (v : OwnName). argument_sets p outer v.origin v b ++ arguments_sets p outer ns arguments) (sym is) ∙
      ap (λ v. argument_sets p outer n.origin n v ++ arguments_sets p outer ns arguments) same
  sets_next (m ∷ ns) (b ∷ arguments) (suc i) n a lt is e = sets_next ns arguments i n a (omega arith) is e

  sets_ended : (ns : List OwnName) (arguments : List ℕ) (i : ℕ) → slice_get arguments i ≡ None →
      arguments_sets p outer (drop (suc i) ns) (drop (suc i) arguments) ≡ arguments_sets p outer (drop i ns) (drop i arguments)
  sets_ended [] [] zero e = refl
  sets_ended [] [] (suc i) e = refl
  sets_ended (n ∷ ns) [] zero e = sets_none ns
  sets_ended (n ∷ ns) [] (suc i) e = sets_none (drop (suc i) ns) ∙ sym (sets_none (drop i ns))
  sets_ended ns (a ∷ arguments) zero e = absurd (cc)
  sets_ended [] (a ∷ arguments) (suc i) e = refl
  sets_ended (n ∷ ns) (a ∷ arguments) (suc i) e = sets_ended ns arguments i e

  -- the sets of one argument more
  pub sets_more : (ns : List OwnName) (arguments : List ℕ) (i : ℕ) (n : OwnName) (a : ℕ) (out new whole : List (List ℕ)) → i < length ns → n ≡ get_or ns i n → slice_get arguments i ≡ Some a →
      new ≡ out ++ argument_sets p outer n.origin n a → out ++ arguments_sets p outer (drop i ns) (drop i arguments) ≡ whole →
      new ++ arguments_sets p outer (drop (i + 1) ns) (drop (i + 1) arguments) ≡ whole
  sets_more ns arguments i n a out new whole lt is e added inv =
      let rest : List (List ℕ) = arguments_sets p outer (drop (suc i) ns) (drop (suc i) arguments) in
      rw add-one (ap (λ (l : List (List ℕ)). l ++ rest) added ∙ append_assoc out (argument_sets p outer n.origin n a) rest ∙
      ap (λ (l : List (List ℕ)). out ++ l) (sym (sets_next ns arguments i n a lt is e)) ∙ inv)

  -- there is other argument at the place
  pub sets_over : (ns : List OwnName) (arguments : List ℕ) (i : ℕ) (out whole : List (List ℕ)) → slice_get arguments i ≡ None →
      out ++ arguments_sets p outer (drop i ns) (drop i arguments) ≡ whole → out ++ arguments_sets p outer (drop (i + 1) ns) (drop (i + 1) arguments) ≡ whole
  sets_over ns arguments i out whole e inv = rw add-one (ap (λ (l : List (List ℕ)). out ++ l) (sets_ended ns arguments i e) ∙ inv)

------------------------------------------------------------
-- Whether a type has a member

module _ (p : Program) (t : TypeRef) (name : List ℕ) where
  abbrev pub HasMember : Type 0
  HasMember = (set : List ℕ) × (member_set p t name ≡ Some set)

  pub no_member : (o : Option (List ℕ)) → o ≡ member_set p t name → is_some o ≡ false → HasMember → ⊥
  no_member None e n h = let q : None ≡ Some h.0 = e ∙ h.1 in cc
  no_member (Some s) e n h = cc

  pub member_there : (o : Option (List ℕ)) → o ≡ member_set p t name → is_some o ≡ true → HasMember
  member_there None e y = absurd (cc)
  member_there (Some s) e y = (s, sym e)
