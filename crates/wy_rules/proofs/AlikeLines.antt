-- The nodes of lines: what fails of a line, and the atom that is missing there, is one.
use Rattle.std.proofs.Common.{◌≡◌, ℕ, List, [], ◌∷◌, inl, inr, refl, sym, ◌∙◌, ap, Option, Some, None, le_antisymm}
use Rattle.wy_text.specs.declared.fault.RuleName.TheVariants.{MUse, MInst, MImport, IImport}
use Rattle.wy_text.specs.Members.{In}
use Rattle.wy_types.specs.declared.resolved.OwnName.{OwnName}
use Rattle.wy_types.specs.declared.resolved.Origin.{Origin}
use Rattle.wy_types.specs.declared.resolved.Origin.TheVariants.{Parameter, Grant, Use, Instance, Import}
use Rattle.wy_types.specs.Program.{Program, Scope}
use Rattle.wy_types.specs.Bounds.{bounds_of}
use Rattle.wy_types.specs.Ground.{argument_sets}
use Rattle.wy_rules.specs.Acceptance.{scope_reading, Handed, opened_members, RespectsBounds, EffectsBounded, IsHigherOrderSafe}
use Rattle.wy_rules.specs.Nodes.{nothing, use_line, instance_line, import_line, bound_line, node, line_nodes, lines_nodes}
use Rattle.wy_rules.specs.Failing.{FirstFalse, FirstOf, LacksInBound, LacksInMethod, Arguments, LacksInMember, InstanceMisfits, InstanceFits, InstanceFails, ImportMisfits, BoundFails}
use Rattle.wy_rules.proofs.Outside.{outside_same}
use Rattle.wy_rules.proofs.AlikeFails.{first_same}
use Rattle.wy_rules.proofs.Alike.{Alike, append, alone, node_alike, nothing_alike}

-- the same premises have one first false one
still_same : (k : ℕ) (A C D : Type 0) (m n : ℕ) → (C → D → m ≡ n) → FirstFalse k A C m → FirstFalse k A D n → m ≡ n
still_same k A C D m n h f g = first_same k A A C D m n (λ v. v) (λ v. v) (λ i j. h) f g

-- what is lacked by the first of several is one, where what each lacks is
first_one : {X : Type 0} (Holds : X → Type 0) (Lacks : X → Option ℕ → Type 0) (xs : List X) (a b : Option ℕ) → ((x : X) (i j : Option ℕ) → Lacks x i → Lacks x j → i ≡ j) → FirstOf Holds Lacks xs a → FirstOf Holds Lacks xs b → a ≡ b
first_one Holds Lacks [] a b one f g = absurd f
first_one Holds Lacks (x ∷ xs) a b one (inl f) (inl g) = one x a b f.1 g.1
first_one Holds Lacks (x ∷ xs) a b one (inl f) (inr g) = absurd (f.0 g.0)
first_one Holds Lacks (x ∷ xs) a b one (inr f) (inl g) = absurd (g.0 f.0)
first_one Holds Lacks (x ∷ xs) a b one (inr f) (inr g) = first_one Holds Lacks xs a b one f.1 g.1

none_lacks : {X : Type 0} (Holds : X → Type 0) (Lacks : X → Option ℕ → Type 0) (xs : List X) (a : Option ℕ) → ((x : X) → In x xs → Holds x) → FirstOf Holds Lacks xs a → ⊥
none_lacks Holds Lacks [] a h f = f
none_lacks Holds Lacks (x ∷ xs) a h (inl f) = f.0 (h x (inl refl))
none_lacks Holds Lacks (x ∷ xs) a h (inr f) = none_lacks Holds Lacks xs a (λ z i. h z (inr i)) f.1

module _ (p : Program) (k : ℕ) (outer : List OwnName) where
  one_in_bound : (bound : List ℕ) (h : Handed) (a b : Option ℕ) → LacksInBound p k outer bound h a → LacksInBound p k outer bound h b → a ≡ b
  one_in_bound bound h None b f g = absurd f
  one_in_bound bound h (Some a) None f g = absurd g
  one_in_bound bound h (Some a) (Some b) f g = ap (λ v. Some v) (le_antisymm (f.2 b g.0 g.1) (g.2 a f.0 f.1))

  one_in_method : (bound : List ℕ) (h : Handed) (a b : Option ℕ) → LacksInMethod p k outer bound h a → LacksInMethod p k outer bound h b → a ≡ b
  one_in_method bound h None b f g = absurd f
  one_in_method bound h (Some a) None f g = absurd g
  one_in_method bound h (Some a) (Some b) f g = ap (λ v. Some v) (le_antisymm (f.1 b g.0) (g.1 a f.0))

  one_in_member : (h : Handed) (a b : Option ℕ) → LacksInMember p k outer h a → LacksInMember p k outer h b → a ≡ b
  one_in_member h a b f g =
      outside_same (opened_members p h.parameter h.parameter.origin) (bounds_of p k) (argument_sets p outer h.parameter.origin h.parameter h.argument) a b f g

  pub misfits_not : (m : ℕ) (arguments : List ℕ) (n : ℕ) → InstanceFits p k outer m arguments → InstanceMisfits p k outer m arguments n → ⊥
  misfits_not m arguments n fits f = elim f [
    | inl one ↦ one.0 fits.resource
    | inr f2 ↦ elim f2.1 [
      | inl two ↦ two.0 fits.numbers
      | inr f3 ↦ elim f3.1 [
        | inl three ↦ three.0 fits.members
        | inr f4 ↦ elim f4.1 [ inl four ↦ four.0 fits.types | inr none ↦ none.1 ]
      ]
    ]
  ]

  instance_same : (m : ℕ) (arguments : List ℕ) (i j : ℕ) (a b : Option ℕ) → InstanceFails p k outer m arguments i a → InstanceFails p k outer m arguments j b → (i ≡ j) × (a ≡ b)
  instance_same m arguments i j a b (inl f) (inl g) = (
    still_same 1 _ _ _ i j (still_same 2 _ _ _ i j (still_same 3 _ _ _ i j (still_same 4 _ ⊥ ⊥ i j (λ v z. absurd v)))) f.0 g.0,
    f.1 ∙ sym g.1,
  )
  instance_same m arguments i j a b (inl f) (inr g) = absurd (misfits_not m arguments i g.0 f.0)
  instance_same m arguments i j a b (inr f) (inl g) = absurd (misfits_not m arguments j f.0 g.0)
  instance_same m arguments i j a b (inr f) (inr g) =
      (f.1 ∙ sym g.1, first_one (RespectsBounds p k outer) (LacksInMember p k outer) (Arguments p k outer m arguments) a b one_in_member f.2 g.2)

  import_same : (m : ℕ) (arguments : List ℕ) (i j : ℕ) (a b : Option ℕ) → ImportMisfits p k outer m arguments i a → ImportMisfits p k outer m arguments j b → (i ≡ j) × (a ≡ b)
  import_same m arguments i j a b f g = (still_same 1 _ _ _ i j (still_same 2 _ ⊥ ⊥ i j (λ v z. absurd v)) f.1 g.1, f.0 ∙ sym g.0)

  bound_same : (m : ℕ) (arguments bound : List ℕ) (i j : ℕ) (a b : Option ℕ) → BoundFails p k outer m arguments bound i a → BoundFails p k outer m arguments bound j b → (i ≡ j) × (a ≡ b)
  bound_same m arguments bound i j a b (inl f) (inl g) =
      (f.0 ∙ sym g.0, first_one (EffectsBounded p k outer bound) (LacksInBound p k outer bound) (Arguments p k outer m arguments) a b (one_in_bound bound) f.1 g.1)
  bound_same m arguments bound i j a b (inl f) (inr g) = absurd (none_lacks (EffectsBounded p k outer bound) (LacksInBound p k outer bound) (Arguments p k outer m arguments) a g.0 f.1)
  bound_same m arguments bound i j a b (inr f) (inl g) = absurd (none_lacks (EffectsBounded p k outer bound) (LacksInBound p k outer bound) (Arguments p k outer m arguments) b f.0 g.1)
  bound_same m arguments bound i j a b (inr f) (inr g) =
      let Holds = IsHigherOrderSafe p k outer bound in
      let Lacks = LacksInMethod p k outer bound in
      let handed = Arguments p k outer m arguments in
      elim f.1 [
        | inl d ↦ elim g.1 [
          | inl e ↦ (d.0 ∙ sym e.0, first_one Holds Lacks handed a b (one_in_method bound) d.1 e.1)
          | inr e ↦ absurd (none_lacks Holds Lacks handed a e.0 d.1)
        ]
        | inr d ↦ elim g.1 [
          | inl e ↦ absurd (none_lacks Holds Lacks handed b d.0 e.1)
          | inr e ↦ (still_same 3 _ _ _ i j (still_same 4 _ ⊥ ⊥ i j (λ v z. absurd v)) d.1.1 e.1.1, d.1.0 ∙ sym e.1.0)
        ]
      ]

module _ (p : Program) (k : ℕ) (s : Scope) (one other : List (scope_reading p k s).Kind) where
  line_alike : (n : OwnName) (o : Origin) → Alike p k s one other (line_nodes n o)
  line_alike n (Parameter bare) = tt
  line_alike n Grant = tt
  line_alike n (Use m) =
      alone p k s one other _
      (node_alike p k s one other (node n.place MUse None nothing (use_line m)) (nothing_alike p k s one other None) (λ o u e h. h) (λ o u e h. h) (λ o u i j a b e z h v. (h.0 ∙ sym v.0, h.1 ∙ sym v.1)))
  line_alike n (Instance m arguments) =
      alone p k s one other _
      (node_alike p k s one other (node n.place MInst None nothing (instance_line m arguments)) (nothing_alike p k s one other None) (λ o u e h. h) (λ o u e h. h)
      (λ o u i j a b e z h v. instance_same p k s.names m arguments i j a b h v))
  line_alike n (Import m arguments bound) = (
    node_alike p k s one other (node n.place MImport None nothing (import_line m arguments)) (nothing_alike p k s one other None) (λ o u e h. h) (λ o u e h. h)
        (λ o u i j a b e z h v. import_same p k s.names m arguments i j a b h v),
    λ c d. alone p k s one other _
        (node_alike p k s one other (node n.place IImport None nothing (bound_line m arguments bound)) (nothing_alike p k s one other None) (λ o u e h. h) (λ o u e h. h)
        (λ o u i j a b e z h v. bound_same p k s.names m arguments bound i j a b h v)),
  )

  pub lines_alike : (ns : List OwnName) → Alike p k s one other (lines_nodes ns)
  lines_alike [] = tt
  lines_alike (n ∷ ns) = append p k s one other (line_nodes n n.origin) (lines_nodes ns) (line_alike n n.origin) (λ a b. lines_alike ns)
