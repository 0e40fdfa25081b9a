-- A method's number is among those of its type.
use Rattle.std.proofs.Common.{◌≡◌, ℕ, zero, suc, ◌+◌, Bool, true, false, ◌||◌, List, [], ◌∷◌, map, inl, inr, refl, sym, ap, ◌∙◌, subst, Option, Some, None, nat_eq, bytes_eq, if◌then◌else◌, arith}
use Rattle.std.specs.Prelude.{slice_get}
use Rattle.std.proofs.lemmas.Bool.{eqb-true}
use Rattle.wy_text.specs.Members.{In}
use Rattle.wy_device.specs.declared.operation.OpName.{OpName}
use Rattle.wy_device.specs.declared.primitive.Primitive.{Primitive}
use Rattle.wy_device.specs.declared.primitive.Primitive.TheVariants as primitive
use Rattle.wy_device.specs.Operation.{method_text}
use Rattle.wy_device.specs.Primitives.{operations_of}
use Rattle.wy_device.specs.Requests.{operation_called}
use Rattle.wy_code.specs.declared.code.Grant.{Grant as CodeGrant}
use Rattle.wy_code.specs.declared.code.Literal.{Literal}
use Rattle.wy_code.specs.declared.code.Method.{Method}
use Rattle.wy_code.specs.EachOnce.{is_among}
use Rattle.wy_code.specs.Machine.{literal_of, body_called}
use Rattle.wy_image.specs.declared.typing.Signature.{Signature}
use Rattle.wy_verified.specs.CodeOf.{primitive_methods}
use Rattle.wy_verified.specs.Images.{Image}
use Rattle.wy_verified.specs.declared.known.Kind.{Kind}
use Rattle.wy_verified.specs.declared.known.Kind.TheVariants.{Ints, Truths, Texts, Units, Named, Own, Granted}
use Rattle.wy_verified.specs.Kinds.{MethodType, methods, listed_in, listed_method, signature_method, own_called, own_method, granted_method, operation_method}
use Rattle.wy_verified.proofs.Lists.{none_some}
use Rattle.wy_verify.specs.Judging.{operation_numbers, listed_numbers, literal_numbers, kind_numbers}

------------------------------------------------------------
-- Of listed types and literals

in_listed : (m : ℕ) (ss : List Signature) (g : MethodType) → listed_in m ss ≡ Some g → In m (map (λ (s : Signature). s.method) ss)
in_listed m [] g e = absurd (none_some e)
in_listed m (s ∷ ss) g e =
    (elim (nat_eq s.method m) as (λ b. nat_eq s.method m ≡ b → (if b then Some (signature_method 0 s) else listed_in m ss) ≡ Some g → In m (map (λ (s : Signature). s.method) (s ∷ ss))) [
      | true ↦ λ h f. inl (eqb-true s.method m h)
      | false ↦ λ h f. inr (in_listed m ss g f)
    ]) refl e

of_listed : (m : ℕ) (o : Option (List Signature)) (g : MethodType) → listed_method o m ≡ Some g → In m (listed_numbers o)
of_listed m None g e = absurd (none_some e)
of_listed m (Some ss) g e = in_listed m ss g e

in_literal : (m b : ℕ) (ms : List Method) → body_called m ms ≡ Some b → In m (map (λ (x : Method). x.method) ms)
in_literal m b [] e = absurd (none_some e)
in_literal m b (x ∷ ms) e =
    (elim (nat_eq x.method m) as (λ t. nat_eq x.method m ≡ t → (if t then Some x.body else body_called m ms) ≡ Some b → In m (map (λ (x : Method). x.method) (x ∷ ms))) [
      | true ↦ λ h f. inl (eqb-true x.method m h)
      | false ↦ λ h f. inr (in_literal m b ms f)
    ]) refl e

of_literal : (image : Image) (x m : ℕ) (o : Option Literal) (g : MethodType) → own_method image x o m ≡ Some g → In m (literal_numbers o)
of_literal image x m None g e = absurd (none_some e)
of_literal image x m (Some l) g e = by_body (body_called m l.methods) refl e
  where
    by_body : (o : Option ℕ) → body_called m l.methods ≡ o → own_called image x o ≡ Some g → In m (map (λ (x : Method). x.method) l.methods)
    by_body None h f = absurd (none_some f)
    by_body (Some b) h f = in_literal m b l.methods h

------------------------------------------------------------
-- Of grants

or_second : (p q : Bool) → q ≡ true → (p || q) ≡ true
or_second true q e = refl
or_second false q e = e

-- the name of an operation's method is among those of the operations
called_among : (n : List ℕ) (os : List OpName) (o : OpName) → operation_called n os ≡ Some o → is_among n (map method_text os) ≡ true
called_among n [] o e = absurd (none_some e)
called_among n (x ∷ os) o e =
    (elim (bytes_eq (method_text x) n) as (λ b. (if b then Some x else operation_called n os) ≡ Some o → (b || is_among n (map method_text os)) ≡ true) [
      | true ↦ λ f. refl
      | false ↦ λ f. called_among n os o f
    ]) e

-- what is among some is among all that have those
among_all : (n : List ℕ) (xs ys : List (List ℕ)) → ((x : List ℕ) → In x xs → In x ys) → is_among n xs ≡ true → is_among n ys ≡ true
among_all n [] ys w e = cc
among_all n (x ∷ xs) ys w e =
    (elim (bytes_eq x n) as (λ b. bytes_eq x n ≡ b → (b || is_among n xs) ≡ true → is_among n ys ≡ true) [
      | true ↦ λ h f. here ys (w x (inl refl)) h
      | false ↦ λ h f. among_all n xs ys (λ z i. w z (inr i)) f
    ]) refl e
  where
    here : (zs : List (List ℕ)) → In x zs → bytes_eq x n ≡ true → is_among n zs ≡ true
    here [] i h = absurd i
    here (z ∷ zs) (inl f) h = ap (λ (b : Bool). b || is_among n zs) (ap (λ (v : List ℕ). bytes_eq v n) f ∙ h)
    here (z ∷ zs) (inr i) h = or_second (bytes_eq z n) (is_among n zs) (here zs i h)

-- the methods of each primitive type are among those of all
operations_named : (p : Primitive) (x : List ℕ) → In x (map method_text (operations_of p)) → In x primitive_methods
operations_named primitive.Console x (inl e) = inl e
operations_named primitive.Console x (inr (inl e)) = inr (inl e)
operations_named primitive.Console x (inr (inr h)) = absurd h
operations_named primitive.Folder x (inl e) = inl e
operations_named primitive.Folder x (inr (inl e)) = inr (inr (inl e))
operations_named primitive.Folder x (inr (inr (inl e))) = inr (inl e)
operations_named primitive.Folder x (inr (inr (inr (inl e)))) = inr (inr (inr (inl e)))
operations_named primitive.Folder x (inr (inr (inr (inr (inl e))))) = inr (inr (inr (inr (inl e))))
operations_named primitive.Folder x (inr (inr (inr (inr (inr h))))) = absurd h
operations_named primitive.Clock x (inl e) = inr (inr (inr (inr (inr (inl e)))))
operations_named primitive.Clock x (inr h) = absurd h
operations_named primitive.Random x (inl e) = inr (inr (inr (inr (inr (inr (inl e))))))
operations_named primitive.Random x (inr h) = absurd h
operations_named primitive.FullFolder x (inl e) = inl e
operations_named primitive.FullFolder x (inr (inl e)) = inr (inr (inl e))
operations_named primitive.FullFolder x (inr (inr (inl e))) = inr (inl e)
operations_named primitive.FullFolder x (inr (inr (inr (inl e)))) = inr (inr (inr (inl e)))
operations_named primitive.FullFolder x (inr (inr (inr (inr (inl e))))) = inr (inr (inr (inr (inl e))))
operations_named primitive.FullFolder x (inr (inr (inr (inr (inr (inl e)))))) = inr (inr (inr (inr (inr (inr (inr (inl e)))))))
operations_named primitive.FullFolder x (inr (inr (inr (inr (inr (inr h)))))) = absurd h

-- the number of such a name is listed
in_operations : (k j m : ℕ) (names : List (List ℕ)) (n : List ℕ) → slice_get names j ≡ Some n → is_among n primitive_methods ≡ true → m ≡ k + j → In m (operation_numbers k names)
in_operations k j m [] n e t z = cc
in_operations k zero m (x ∷ names) n e t z =
    let here : is_among x primitive_methods ≡ true = ap (λ (v : List ℕ). is_among v primitive_methods) (let s : x ≡ n = cc in s) ∙ t in
    let le : k ≡ m = omega (arith, z) in
    subst (λ (l : List ℕ). In m l) (sym (ap (λ (b : Bool). if b then k ∷ operation_numbers (suc k) names else operation_numbers (suc k) names) here)) (inl le)
in_operations k (suc j) m (x ∷ names) n e t z =
    let later : In m (operation_numbers (suc k) names) = in_operations (suc k) j m names n e t (omega (arith, z)) in
    elim (is_among x primitive_methods) as (λ b. In m (if b then k ∷ operation_numbers (suc k) names else operation_numbers (suc k) names)) [
      | true ↦ inr later
      | false ↦ later
    ]

of_grant : (image : Image) (g m : ℕ) (o : Option CodeGrant) (t : MethodType) → granted_method g o (slice_get image.names m) ≡ Some t → In m (operation_numbers 0 image.names)
of_grant image g m None t e = absurd (none_some e)
of_grant image g m (Some grant) t e = by_name (slice_get image.names m) refl e
  where
    by_name : (o : Option (List ℕ)) → slice_get image.names m ≡ o → granted_method g (Some grant) o ≡ Some t → In m (operation_numbers 0 image.names)
    by_name None h f = absurd (none_some f)
    by_name (Some n) h f = by_operation (operation_called n (operations_of grant.primitive)) refl f
      where
        by_operation : (o : Option OpName) → operation_called n (operations_of grant.primitive) ≡ o → operation_method g o ≡ Some t → In m (operation_numbers 0 image.names)
        by_operation None i j = absurd (none_some j)
        by_operation (Some o) i j =
            in_operations 0 m m image.names n h
            (among_all n (map method_text (operations_of grant.primitive)) primitive_methods (operations_named grant.primitive) (called_among n (operations_of grant.primitive) o i))
            (omega arith)

------------------------------------------------------------

-- a method's number is among those of its type
pub numbers_whole : (image : Image) (kind : Kind) (m : ℕ) (g : MethodType) → methods image kind m ≡ Some g → In m (kind_numbers image kind)
numbers_whole image (Named t) m g e = of_listed m (slice_get image.types t) g e
numbers_whole image (Own x l) m g e = of_literal image x m (literal_of image.code x l) g e
numbers_whole image (Granted y) m g e = of_grant image y m (slice_get image.code.grants y) g e
numbers_whole image Ints m g e = absurd (none_some e)
numbers_whole image Truths m g e = absurd (none_some e)
numbers_whole image Texts m g e = absurd (none_some e)
numbers_whole image Units m g e = absurd (none_some e)
