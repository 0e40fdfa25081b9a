-- A scope that does not write a declared type holds in each of two programs that differ in that type alone.
use Rattle.std.proofs.Common.{◌≡◌, ℕ, List, [], ◌∷◌, map, length, inl, inr, refl, ◌∙◌, ap, subst, Option, Some, None, Bool as Truth, true, false}
use Rattle.std.specs.Prelude.{slice_get, nat_eq, if◌then◌else◌}
use Rattle.wy_text.specs.Members.{In}
use Rattle.wy_effects.specs.EffSet.{replace}
use Rattle.wy_text.proofs.Lists.{In-left, In-right, In-unmap}
use Rattle.wy_types.specs.declared.types.TypeRef.{TypeRef}
use Rattle.wy_types.specs.declared.types.TypeRef.TheVariants.{Int, Bool, Text, Unit as Nothing, Named, At, Own}
use Rattle.wy_types.specs.declared.resolved.TypeDecl.{TypeDecl}
use Rattle.wy_types.specs.Program.{Program, Scope, Body}
use Rattle.wy_types.specs.Signature.{Signature, mapped_signature}
use Rattle.wy_types.specs.Types.{IsObject, is_plain, scope_is_plain, substituted, annotated, erased, signature, declared_methods, named_methods, methods_of_owner, scope_bodies, methods_of}
use Rattle.wy_rules.specs.Readings.{Reading}
use Rattle.wy_rules.specs.Reached.{IsReached, of_number, of_truth, of_text, of_nothing, of_own, of_field, of_parameter, of_answer, of_name, of_start, of_body, of_argument, of_result}
use Rattle.wy_types.specs.Bounds.{scope_bounds}
use Rattle.wy_rules.specs.Transfer.{AgreesIn, NamesNot, WritesNot, DiffersAt, ScopesHoldWithoutType}
use Rattle.wy_rules.proofs.OwnTypes.{own_is}
use Rattle.wy_rules.proofs.Transferring.{scopes_hold_where_methods_agree}

module _ (i : ℕ) (p other : Program) (k : ℕ) (s : Scope) (w : DiffersAt i p other) (at : slice_get p.scopes k ≡ Some s) (writes : WritesNot i s) where
  pub erased_not : (t : TypeRef) → NamesNot i t → NamesNot i (erased t)
  erased_not Int h = tt
  erased_not Bool h = tt
  erased_not Text h = tt
  erased_not Nothing h = tt
  erased_not (Named d es) h = h
  erased_not (At d e) h = h
  erased_not (Own l) h = tt

  pub put_not : (es : List (List ℕ)) (t : TypeRef) → NamesNot i t → NamesNot i (substituted es t)
  put_not es Int h = tt
  put_not es Bool h = tt
  put_not es Text h = tt
  put_not es Nothing h = tt
  put_not es (Named d ms) h = h
  put_not es (At d e) h = h
  put_not es (Own l) h = tt

  at_not : (e : List ℕ) (t : TypeRef) → NamesNot i t → NamesNot i (annotated e t)
  at_not e Int h = tt
  at_not e Bool h = tt
  at_not e Text h = tt
  at_not e Nothing h = tt
  at_not e (Named d ms) h = h
  at_not e (At d f) h = h
  at_not e (Own l) h = tt

  abbrev SignatureNot : Signature TypeRef → Type 0
  SignatureNot m = ((t : TypeRef) → In t m.params → NamesNot i t) × NamesNot i m.result

  declared_not : (f : TypeRef → TypeRef) (g : List ℕ → List ℕ) → ((t : TypeRef) → NamesNot i t → NamesNot i (f t)) → (d : ℕ) → (d ≡ i → ⊥) → (o : Option TypeDecl) → slice_get p.declarations d ≡ o → (m : Signature TypeRef) →
      In m (map (mapped_signature f g) (declared_methods o)) → SignatureNot m
  declared_not f g h d n None e m j = absurd j
  declared_not f g h d n (Some a) e m j =
      let r = In-unmap (mapped_signature f g) m (map signature a.methods) j in
      let q = w.named_not d a n e r.0 r.1 in
      subst SignatureNot r.2 (
        λ t l. (let u = In-unmap f t r.0.params l in subst (NamesNot i) u.2 (h u.0 (q u.0 (In-left u.0 r.0.params (r.0.result ∷ []) u.1)))),
        h r.0.result (q r.0.result (In-right r.0.result r.0.params (r.0.result ∷ []) (inl refl))),
      )

  named_not : (plain : Truth) (es : List (List ℕ)) (d : ℕ) → (d ≡ i → ⊥) → (m : Signature TypeRef) → In m (named_methods plain es (declared_methods (slice_get p.declarations d))) → SignatureNot m
  named_not true es d n m j = declared_not erased (λ e. []) erased_not d n (slice_get p.declarations d) refl m j
  named_not false es d n m j = declared_not (substituted es) (replace es) (put_not es) d n (slice_get p.declarations d) refl m j

  own_not : (l : ℕ) (bs : List Body) → ((b : Body) → In b bs → SignatureNot (signature b.signature)) → (m : Signature TypeRef) → In m (methods_of_owner l bs) → SignatureNot m
  own_not l [] h m j = absurd j
  own_not l (b ∷ bs) h m j =
      elim (nat_eq b.owner l) as (λ v. In m (if v then signature b.signature ∷ methods_of_owner l bs else methods_of_owner l bs) → SignatureNot m) [
        | true ↦ λ q. elim q [ inl e ↦ subst SignatureNot e (h b (inl refl)) | inr o ↦ own_not l bs (λ v z. h v (inr z)) m o ]
        | false ↦ λ q. own_not l bs (λ v z. h v (inr z)) m q
      ] j

  pub methods_not : (t : TypeRef) → NamesNot i t → (m : Signature TypeRef) → In m (methods_of p k t) → SignatureNot m
  methods_not Int n m j = absurd j
  methods_not Bool n m j = absurd j
  methods_not Text n m j = absurd j
  methods_not Nothing n m j = absurd j
  methods_not (Named d es) n m j = named_not (scope_is_plain (slice_get p.scopes k)) es d n m j
  methods_not (At d e) n m j = declared_not (annotated e) (λ f. e) (at_not e) d n (slice_get p.declarations d) refl m j
  methods_not (Own l) n m j = own_not l s.bodies (λ b z. (writes.params b z, writes.results b z)) m (subst (λ o. In m (methods_of_owner l (scope_bodies o))) at j)

  abbrev over : (Includes Allows : List ℕ → List ℕ → Type 0) → (Under : List ℕ → ℕ → Type 0) → Reading
  over Includes Allows Under = record { Kind = TypeRef; read = λ t. t; effect = λ e. e; methods = methods_of p k; IsObject = IsObject; Includes = Includes; Allows = Allows; Under = Under }

  -- no reached type is the one in which the programs differ
  pub reached_not : (Includes Allows : List ℕ → List ℕ → Type 0) (Under : List ℕ → ℕ → Type 0) (t : TypeRef) → IsReached (over Includes Allows Under) s t → NamesNot i t
  reached_not Includes Allows Under t of_number = tt
  reached_not Includes Allows Under t of_truth = tt
  reached_not Includes Allows Under t of_text = tt
  reached_not Includes Allows Under t of_nothing = tt
  reached_not Includes Allows Under t (of_own u j) = (let r = own_is s.kind (length s.literals) u j in subst (NamesNot i) r.2 tt)
  reached_not Includes Allows Under t (of_field l u j) = writes.fields l u j
  reached_not Includes Allows Under t (of_parameter b j u l) = writes.params b j u l
  reached_not Includes Allows Under t (of_answer b j) = writes.results b j
  reached_not Includes Allows Under t (of_name n j) = writes.names n j
  reached_not Includes Allows Under t (of_start u j) = writes.start u j
  reached_not Includes Allows Under t (of_body b j u l) = writes.bodies b j u l
  reached_not Includes Allows Under t (of_argument u h m j v l) = (methods_not u (reached_not Includes Allows Under u h) m j).0 v l
  reached_not Includes Allows Under t (of_result u h m j) = (methods_not u (reached_not Includes Allows Under u h) m j).1

  pub agree : (t : TypeRef) → NamesNot i t → methods_of p k t ≡ methods_of other k t
  agree Int n = refl
  agree Bool n = refl
  agree Text n = refl
  agree Nothing n = refl
  agree (Named d es) n =
      ap (λ ss. named_methods (scope_is_plain (slice_get ss k)) es (declared_methods (slice_get p.declarations d))) w.scopes ∙ ap (λ o. named_methods (scope_is_plain (slice_get other.scopes k)) es (declared_methods o)) (w.declarations d n)
  agree (At d e) n = ap (λ o. map (mapped_signature (annotated e) (λ f. e)) (declared_methods o)) (w.declarations d n)
  agree (Own l) n = ap (λ ss. methods_of_owner l (scope_bodies (slice_get ss k))) w.scopes

  pub agrees_in : (plain : Truth) → AgreesIn p other k s plain
  agrees_in true = λ t r. agree t (reached_not _ _ _ t r)
  agrees_in false = λ t r. agree t (reached_not _ _ _ t r)

pub scopes_hold_without_type : ScopesHoldWithoutType
scopes_hold_without_type i p other k s w at fits writes h = scopes_hold_where_methods_agree p other k s fits (ap (λ l. scope_bounds (slice_get l k)) w.scopes) (agrees_in i p other k s w at writes (is_plain s.kind)) h
