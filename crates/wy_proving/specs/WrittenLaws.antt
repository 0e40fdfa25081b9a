-- When what is written for a scope proves it, and what an accepted scope asks (docs/LANGUAGE.md, "Certificates").
use Rattle.std.specs.Prelude.{◌≡◌, ℕ, List, ◌++◌, map, Some, slice_get}
use Rattle.wy_text.specs.Members.{In}
use Rattle.wy_effects.specs.Bounds.{IsWithin}
use Rattle.wy_types.specs.declared.types.TypeRef.{TypeRef}
use Rattle.wy_types.specs.Program.{Program, Scope}
use Rattle.wy_types.specs.Types.{IsObject, erased, methods_of}
use Rattle.wy_types.specs.Bounds.{bounds_of}
use Rattle.wy_types.specs.Subtyping.{IsClosed, AnyEffect, IsAnnotatedSubtype}
use Rattle.wy_types.specs.Signature.{Signature}
use Rattle.wy_types.specs.Core.{IsCore}
use Rattle.wy_rules.specs.PlainMethods.{erased_methods, IsPlainSubtypeOver}
use Rattle.wy_rules.specs.Acceptance.{scope_reading, ScopeAccepted}
use Rattle.wy_rules.specs.Canonical.{locals_of}
use Rattle.wy_proving.specs.Certified.{Pair, bare}
use Rattle.wy_proving.specs.Proving.{TypeStands, ScopeProof}
use Rattle.wy_proving.specs.Written.{pair_types, step_types, asks, plain_asks, written_out, written_steps, BareStands}

module _ (p : Program) (k : ℕ) (s : Scope) where
  -- the types of its `val`s that are found one after the other
  abbrev pub AreFound : List TypeRef → Type 0
  AreFound us = map (scope_reading p k s).read us ≡ locals_of p k s

  -- lists that have the pairs that are asked, each pair closed in its list, and types that can stand, all types of the
  -- others among them
  pub record IsWhole (us ts : List TypeRef) (ps bs : List Pair) : Type 0 where
    pub asked : (q : Pair) → In {X = Pair} q (asks p k s us) → In {X = Pair} q ps
    pub closed : (q : Pair) → In {X = Pair} q ps →
        IsClosed TypeRef (methods_of p k) IsObject (IsWithin (bounds_of p k)) ps q
    pub asked_plainly : (q : Pair) → In {X = Pair} q (plain_asks p k s us) → In {X = Pair} (bare q) (map bare bs)
    pub closed_plainly : (q : Pair) → In {X = Pair} q bs →
        IsClosed TypeRef (erased_methods p k) IsObject AnyEffect (map bare bs) (bare q)
    pub listed : (t : TypeRef) →
        In t (pair_types ps ++ (pair_types bs ++ (step_types (written_steps p k s us) ++ us))) → In t ts
    pub stand : (t : TypeRef) → In t ts → TypeStands p s t

  -- the pairs that are asked are subtypings of types that can stand, and so can the types of steps and `val`s
  pub record AskedStand (us : List TypeRef) : Type 0 where
    pub asks : (q : Pair) → In {X = Pair} q (asks p k s us) →
        IsAnnotatedSubtype p k q.0 q.1 × TypeStands p s q.0 × TypeStands p s q.1
    pub plain_asks : (q : Pair) → In {X = Pair} q (plain_asks p k s us) →
        IsPlainSubtypeOver (erased_methods p k) (erased q.0) (erased q.1) ×
        BareStands p k s (erased q.0) × BareStands p k s (erased q.1)
    pub steps : (t : TypeRef) → In t (step_types (written_steps p k s us)) → TypeStands p s t
    pub vals : (t : TypeRef) → In t us → TypeStands p s t

  -- the types that a method names have a property
  abbrev pub NamesHave : (TypeRef → Type 0) → Signature TypeRef → Type 0
  NamesHave P m = ((t : TypeRef) → In t m.params → P t) × P m.result

------------------------------------------------------------
-- Laws

-- what is written from such lists proves a scope that is accepted
abbrev pub WrittenIsProof : Type 0
WrittenIsProof =
    (p : Program) (k : ℕ) (s : Scope) → IsCore p → slice_get p.scopes k ≡ Some s → ScopeAccepted p k s →
    (us ts : List TypeRef) (ps bs : List Pair) → AreFound p k s us → IsWhole p k s us ts ps bs →
    ScopeProof p k s (written_out ts ps bs us (written_steps p k s us))

-- what is asked of a scope that is accepted stands
abbrev pub WhatIsAskedStands : Type 0
WhatIsAskedStands =
    (p : Program) (k : ℕ) (s : Scope) → IsCore p → slice_get p.scopes k ≡ Some s → ScopeAccepted p k s →
    (us : List TypeRef) → AreFound p k s us → AskedStand p k s us

-- the methods of a type that can stand name types that can stand
abbrev pub NamedTypesStand : Type 0
NamedTypesStand =
    (p : Program) (k : ℕ) (s : Scope) → IsCore p → slice_get p.scopes k ≡ Some s → (t : TypeRef) → TypeStands p s t →
    (m : Signature TypeRef) → In m (methods_of p k t) → NamesHave p k s (TypeStands p s) m

-- .. and those without effects of an erased type that can be listed, such types
abbrev pub NamedBareTypesStand : Type 0
NamedBareTypesStand =
    (p : Program) (k : ℕ) (s : Scope) → IsCore p → slice_get p.scopes k ≡ Some s → (t : TypeRef) →
    (m : Signature TypeRef) → In m (erased_methods p k t) → NamesHave p k s (BareStands p k s) m
