-- What V-Range says of effects and types.
use Rattle.std.proofs.Common.{◌≡◌, ℕ, zero, suc, ◌<◌, ◌≤◌, List, [], ◌∷◌, length, map, inl, inr, refl, sym, subst, Option, Some, None, arith}
use Rattle.std.specs.Prelude.{slice_get}
use Rattle.wy_text.specs.Members.{In}
use Rattle.wy_text.proofs.Lists.{In-left, In-right, In-cases, In-slice_get, In-at, In-map, In-unmap}
use Rattle.wy_device.specs.declared.primitive.Primitive.{Primitive}
use Rattle.wy_device.specs.declared.primitive.Primitive.TheVariants as primitive
use Rattle.wy_image.specs.declared.file.Body.{Body}
use Rattle.wy_image.specs.declared.file.Grant.{Grant}
use Rattle.wy_image.specs.declared.file.ImageFile.{ImageFile}
use Rattle.wy_image.specs.declared.file.Instance.{Instance}
use Rattle.wy_image.specs.declared.file.Scope.{Scope}
use Rattle.wy_image.specs.declared.typing.Atom.{Atom}
use Rattle.wy_image.specs.declared.typing.Bounds.{Bounds}
use Rattle.wy_image.specs.declared.typing.Reference.{Reference}
use Rattle.wy_image.specs.declared.typing.Reference.TheVariants as written
use Rattle.wy_image.specs.declared.typing.Signature.{Signature}
use Rattle.wy_image.specs.declared.typing.Typing.{Typing}
use Rattle.wy_verified.specs.CodeOf.{typings_of}
use Rattle.wy_verified.specs.Members.{members_of}
use Rattle.wy_verified.specs.Ranges.{roles_of, role_bodies, scopes_bodies, IsMember, AtomInRange, IsPlain, TypingInRange, BoundsInRange, IsInRange}
use Rattle.wy_verified.proofs.Lists.{read_there, none_some}
use Rattle.wy_verify.specs.Effects.{IsSmall, AreSmall}
use Rattle.wy_verify.specs.Found.{NoLiteral, NoLiterals}
use Rattle.wy_verify.specs.Tables.{SmallTypes, SmallTypings}

read_less : {X : Type 0} (xs : List X) (k : ℕ) (x : X) → slice_get xs k ≡ Some x → k < length xs
read_less [] k x e = absurd (none_some e)
read_less (y ∷ xs) zero x e = omega arith
read_less (y ∷ xs) (suc k) x e = let h = read_less xs k x e in omega (arith, h)

pub few_members : (p : Primitive) → length (members_of p) ≤ 5
few_members primitive.Console = omega arith
few_members primitive.Folder = omega arith
few_members primitive.Clock = omega arith
few_members primitive.Random = omega arith
few_members primitive.FullFolder = omega arith

plain_no : (file : ImageFile) (r : Reference) → IsPlain file r → NoLiteral r
plain_no file written.Int h = tt
plain_no file written.Truth h = tt
plain_no file written.Bytes h = tt
plain_no file written.Unit h = tt
plain_no file (written.Listed t) h = tt
plain_no file (written.Literal l) h = absurd h
plain_no file (written.Grant g) h = tt
plain_no file (written.Instance y) h = tt

module _ (file : ImageFile) (range : IsInRange file) where
  small_atom : (a : Atom) → AtomInRange file a → IsSmall a
  small_atom a h = of (slice_get file.grants a.grant) refl h
    where
      of : (o : Option Grant) → slice_get file.grants a.grant ≡ o → IsMember file o a.member → IsSmall a
      of None e m = absurd m
      of (Some g) e m =
          let less = read_less file.grants a.grant g e in
          let few = few_members g.primitive in
          let all : length file.grants ≤ 64 = range.limits.grants in
          (omega (arith, less, all), omega (arith, m, few))

  -- the grants are few
  pub few_grants : length file.grants ≤ 64
  few_grants = range.limits.grants

  -- a method of a listed type
  pub small_signature : (t : List Signature) (s : Signature) → In t file.types → In s t → AreSmall s.effect
  small_signature t s i j = λ a h. small_atom a (((range.types t i).each s j).atoms a h)

  pub plain_signature : (t : List Signature) (s : Signature) → In t file.types → In s t → NoLiterals s.parameters × NoLiteral s.result
  plain_signature t s i j = (λ r h. plain_no file r (((range.types t i).each s j).parameters r h), plain_no file s.result ((range.types t i).each s j).result)

  pub small_types : SmallTypes file.types
  small_types = λ t i s j. small_signature t s i j

  ------------------------------------------------------------
  -- What is stated of a body

  -- a body of a scope is one of the scopes'
  pub in_scopes : (ss : List Scope) (s : Scope) (b : ℕ) → In s ss → In b (role_bodies (roles_of s)) → In b (scopes_bodies ss)
  in_scopes [] s b i j = absurd i
  in_scopes (t ∷ ss) s b (inl e) j = In-left b (role_bodies (roles_of t)) (scopes_bodies ss) (subst (λ (x : Scope). In b (role_bodies (roles_of x))) (sym e) j)
  in_scopes (t ∷ ss) s b (inr i) j = In-right b (role_bodies (roles_of t)) (scopes_bodies ss) (in_scopes ss s b i j)

  of_typing : (x k : ℕ) (s : Scope) (t : Typing) (n : Bounds) → slice_get file.scopes k ≡ Some s → TypingInRange file x s t → In n t.bodies → (b : Body) × BoundsInRange file x s b n
  of_typing x k s t n there typing i =
      let role : In n.body (role_bodies (roles_of s)) = (typing.bodies n.body).0 (In-map (λ (n : Bounds). n.body) n t.bodies i) in
      let less = range.bodies.there n.body (in_scopes file.scopes s n.body (In-slice_get file.scopes k s there) role) in
      let b = read_there file.bodies n.body less in
      (b.0, typing.each n b.0 i b.1)

  -- it names what is there
  pub stated_range : (t : Typing) (n : Bounds) → In t (typings_of file) → In n t.bodies → (x : ℕ) × (s : Scope) × (b : Body) × BoundsInRange file x s b n
  stated_range t n i j =
      elim (In-cases t (map (λ (i : Instance). i.typing) file.instances) (file.main.typing ∷ []) i) [
        | inl h ↦ (
            let u = In-unmap (λ (i : Instance). i.typing) t file.instances h in
            let at = In-at u.0 file.instances u.1 in
            let r = range.instances at.0 u.0 at.2 in
            let q = of_typing at.0 u.0.scope r.scope u.0.typing n r.there r.typing (subst (λ (x : Typing). In n x.bodies) (sym u.2) j) in
            (at.0, r.scope, q.0, q.1))
        | inr h ↦ elim h [
          | inl e ↦ (
              let r = range.main in
              let q = of_typing (length file.instances) file.main.scope r.scope file.main.typing n r.there r.typing (subst (λ (x : Typing). In n x.bodies) (sym e) j) in
              (length file.instances, r.scope, q.0, q.1))
          | inr f ↦ absurd f
        ]
      ]

  pub small_bounds : (t : Typing) (n : Bounds) → In t (typings_of file) → In n t.bodies → AreSmall n.effect
  small_bounds t n i j = let r = stated_range t n i j in λ a h. small_atom a (r.3.atoms a h)

  pub plain_bounds : (t : Typing) (n : Bounds) → In t (typings_of file) → In n t.bodies → NoLiterals n.parameters × NoLiteral n.result
  plain_bounds t n i j = let r = stated_range t n i j in (λ p h. plain_no file p (r.3.parameters p h), plain_no file n.result r.3.result)

  pub small_typings : SmallTypings (typings_of file)
  small_typings = λ t i n j. small_bounds t n i j
