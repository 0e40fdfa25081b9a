-- Where the code of a program has the scopes of instances, their literals, the methods of objects, and grants.
use Rattle.std.proofs.Common.{◌≡◌, inl, inr, ℕ, zero, suc, ◌+◌, ◌<◌, Bool, true, false, ◌&&◌, List, [], ◌∷◌, ◌++◌, length, map, Option, Some, None, refl, sym, ap, ◌∙◌, subst, arith, nat_eq, bytes_eq, if◌then◌else◌}
use Rattle.std.proofs.lemmas.Bool.{eqb-true, eq-eqb, ne_eqb, and_parts, both_ways}
use Rattle.std.proofs.lemmas.Slice.Eq.{bytes_eq-Decides}
use Rattle.std.specs.Prelude.{slice_get}
use Rattle.wy_text.specs.Members.{In}
use Rattle.wy_text.proofs.Lists.{In-left, In-right}
use Rattle.wy_types.specs.declared.resolved.Literal.{Literal}
use Rattle.wy_types.specs.Program.{Program, Scope, Body}
use Rattle.wy_meaning.specs.Starts.{Started, Starts, all_started, scope_started, scope_of_instance}
use Rattle.wy_meaning.specs.Eval.{Method, find_body, method_in, started_name, instance_name}
use Rattle.wy_code.specs.declared.code.Instance as x
use Rattle.wy_code.specs.declared.code.Literal as item
use Rattle.wy_code.specs.Machine.{all_instances, scope_in, literal_of_scope, literal_of, name_in, body_called, body_numbered, method_of_literal}
use Rattle.wy_lower.specs.Inside.{capture_sources}
use Rattle.wy_lower.specs.Laws.{Stands}
use Rattle.wy_lower.specs.Lowering.{owned_names, kinds_names, entry_names, method_table, body_code, methods_code, inside_maker, captures_code, scope_arguments, literals_code, instance_code, lowered}
use Rattle.wy_lower.specs.Parts.{scopes_parts, calls_in, number_in}
use Rattle.wy_lower.proofs.Looking.{some_is}
use Rattle.wy_lower.proofs.Numbers.{has_method_names}
use Rattle.wy_lower.proofs.Slots.{picked, not_picked}
use Rattle.wy_lower.proofs.Standing.{bodies_stand}

pub in_list : {X : Type 0} (xs : List X) (k : ℕ) (x : X) → slice_get xs k ≡ Some x → In x xs
in_list [] k x e = absurd cc
in_list (z ∷ xs) zero x e = inl (some_is e)
in_list (z ∷ xs) (suc k) x e = inr (in_list xs k x e)

------------------------------------------------------------
-- Instances and scopes

-- the code's instance of a number has the name and the scope that the program's has
pub record Coded (i : Started) (o : Option x.Instance) : Type 0 where
  pub instance : x.Instance
  pub is : o ≡ Some instance
  pub name : instance.name ≡ i.name
  pub scope : instance.scope ≡ i.scope

coded_from : (is : List Started) (main : Started) (k : ℕ) (i : Started) → slice_get (is ++ main ∷ []) k ≡ Some i →
    Coded i (slice_get (map instance_code is ++ instance_code (record main { actuals = [] }) ∷ []) k)
coded_from [] main zero i e = record {
  instance = instance_code (record main { actuals = [] });
  is = refl;
  name =
      ap (λ (t : Started). t.name) (some_is e);
  scope = ap (λ (t : Started). t.scope) (some_is e);
}
coded_from [] main (suc k) i e = absurd cc
coded_from (j ∷ is) main zero i e =
    record {
      instance = instance_code j;
      is = refl;
      name = ap (λ (t : Started). t.name) (some_is e);
      scope =
          ap (λ (t : Started). t.scope) (some_is e);
    }
coded_from (j ∷ is) main (suc k) i e = coded_from is main k i e

-- the method that is found is one of these bodies, and of that owner
pub found_method : (k l : ℕ) (name : List ℕ) (bodies : List Body) (m : Method) → find_body k l name bodies ≡ Some m → (j : ℕ) ×
    (slice_get bodies j ≡ Some m.body) × (m.body.owner ≡ l)
found_method k l name [] m e = absurd cc
found_method k l name (b ∷ bs) m e = of (nat_eq b.owner l && bytes_eq b.signature.name name) refl (found_method (k + 1) l name bs m)
  where
    of : (c : Bool) → (nat_eq b.owner l && bytes_eq b.signature.name name) ≡ c →
        (find_body (k + 1) l name bs ≡ Some m → (j : ℕ) × (slice_get bs j ≡ Some m.body) × (m.body.owner ≡ l)) → (j : ℕ) ×
        (slice_get (b ∷ bs) j ≡ Some m.body) × (m.body.owner ≡ l)
    of true t rest =
        let f : record { number = k; body = b } ≡ m = some_is (sym (picked _ _ _ t) ∙ e) in
        (0, ap (λ (y : Method). Some y.body) f, sym (ap (λ (y : Method). y.body.owner) f) ∙ eqb-true b.owner l (and_parts _ _ t).0)
    of false t rest = let r = rest (sym (not_picked _ _ _ t) ∙ e) in (suc r.0, r.1, r.2)

module _ (p : Program) (st : Starts) where
  pub coded : (k : ℕ) (i : Started) → slice_get (all_started st) k ≡ Some i → Coded i (slice_get (all_instances (lowered p st)) k)
  unfolding lowered
  coded k i e = coded_from st.instances st.main k i e

  -- the scope of an instance, with its number and its code
  pub record ScopeCoded (k : ℕ) (sc : Scope) : Type 0 where
    pub instance : Started
    pub started : slice_get (all_started st) k ≡ Some instance
    pub there : slice_get p.scopes instance.scope ≡ Some sc
    pub stands : Stands p st instance.scope sc
    pub code : scope_in (lowered p st) (slice_get (all_instances (lowered p st)) k) ≡ Some
        (record { arguments = scope_arguments sc; start = stands.first; literals = literals_code p st sc stands.first 0 sc.literals })
    pub name : name_in (slice_get (all_instances (lowered p st)) k) ≡ instance_name st k

  pub scope_coded : (k : ℕ) (sc : Scope) → scope_of_instance p st k ≡ Some sc → ScopeCoded k sc
  scope_coded k sc e = of (slice_get (all_started st) k) refl
    where
      of : (o : Option Started) → slice_get (all_started st) k ≡ o → ScopeCoded k sc
      of None t = let z : scope_of_instance p st k ≡ None = ap (scope_started p) t in absurd cc
      of (Some i) t =
          let there : slice_get p.scopes i.scope ≡ Some sc = sym (ap (scope_started p) t) ∙ e in
          let c = coded k i t in
          let b = bodies_stand p st i.scope sc there in
          record {
            instance = i;
            started = t;
            there = there;
            stands = b;
            code = ap (scope_in (lowered p st)) c.is ∙ (ap (slice_get (lowered p st).scopes) c.scope ∙ b.scope);
            name = ap name_in c.is ∙ (c.name ∙ sym (ap started_name t));
          }

  ------------------------------------------------------------
  -- Literals

  abbrev pub literal_code : Scope → ℕ → ℕ → Literal → item.Literal
  literal_code sc first l literal =
      record { captures = captures_code p st sc l literal.captures; fields = length literal.fields; methods = methods_code p l (first + 1) sc.bodies }

  literal_from : (sc : Scope) (first k : ℕ) (literals : List Literal) (l : ℕ) (literal : Literal) → slice_get literals l ≡ Some literal →
      slice_get (literals_code p st sc first k literals) l ≡ Some (literal_code sc first (k + l) literal)
  literal_from sc first k [] l literal e = absurd cc
  literal_from sc first k (y ∷ ys) zero literal e =
      let z : k ≡ k + 0 = omega arith in
      ap (λ (t : Literal). Some (literal_code sc first k t)) (some_is e) ∙ ap (λ (j : ℕ). Some (literal_code sc first j literal)) z
  literal_from sc first k (y ∷ ys) (suc l) literal e =
      let z : k + 1 + l ≡ k + suc l = omega arith in
      literal_from sc first (k + 1) ys l literal e ∙ ap (λ (j : ℕ). Some (literal_code sc first j literal)) z

  pub literal_is : (k : ℕ) (sc : Scope) (c : ScopeCoded k sc) (l : ℕ) (literal : Literal) → slice_get sc.literals l ≡ Some literal →
      literal_of (lowered p st) k l ≡ Some (literal_code sc c.stands.first l literal)
  literal_is k sc c l literal e =
      let z : 0 + l ≡ l = omega arith in
      ap (λ o. literal_of_scope o l) c.code
      ∙ (literal_from sc c.stands.first 0 sc.literals l literal e ∙ ap (λ (j : ℕ). Some (literal_code sc c.stands.first j literal)) z)

  -- the literal of a `new` has the values that the literal captures where it is made
  pub made_literal : (k : ℕ) (sc : Scope) → scope_of_instance p st k ≡ Some sc → (l : ℕ) → 0 < l → (literal : Literal) →
      slice_get sc.literals l ≡ Some literal →
      (y : item.Literal) × (literal_of (lowered p st) k l ≡ Some y) ×
      (y.captures ≡ capture_sources (inside_maker p st sc l 0 sc.bodies) literal.captures) × (y.fields ≡ length literal.fields)
  made_literal k sc here zero h literal e = absurd (omega arith)
  made_literal k sc here (suc l) h literal e = let c = scope_coded k sc here in
      (literal_code sc c.stands.first (suc l) literal, literal_is k sc c (suc l) literal e, refl, refl)

  ------------------------------------------------------------
  -- Methods

  -- where the meaning finds a method, and where the code has its number
  pub record Called (k l : ℕ) (name : List ℕ) (bodies : List Body) (first : ℕ) (m : Method) : Type 0 where
    pub offset : ℕ
    pub number : m.number ≡ k + offset
    pub is : slice_get bodies offset ≡ Some m.body
    pub owner : m.body.owner ≡ l
    pub named : m.body.signature.name ≡ name
    pub coded : body_called (number_in (method_table p) name) (methods_code p l first bodies) ≡ Some (first + offset)

  abbrev HasNumber : List ℕ → Type 0
  HasNumber name = slice_get (method_table p) (number_in (method_table p) name) ≡ Some name

  numbers_differ : (a b : List ℕ) → HasNumber a → HasNumber b → bytes_eq a b ≡ false →
      nat_eq (number_in (method_table p) a) (number_in (method_table p) b) ≡ false
  numbers_differ a b h k e =
      ne_eqb (number_in (method_table p) a) (number_in (method_table p) b) (λ same.
      let z : a ≡ b = some_is (sym h ∙ (ap (slice_get (method_table p)) same ∙ k)) in
      both_ways (bytes_eq a b) e ((bytes_eq-Decides a b).1 z))

  called_from : (k l : ℕ) (name : List ℕ) (bodies : List Body) (first : ℕ) (m : Method) → ((b : Body) → In b bodies → nat_eq b.owner l ≡ true → HasNumber b.signature.name) →
      HasNumber name → find_body k l name bodies ≡ Some m → Called k l name bodies first m
  called_from k l name [] first m all h e = absurd cc
  called_from k l name (b ∷ bs) first m all h e =
      of (nat_eq b.owner l) (bytes_eq b.signature.name name) refl refl (λ f j. called_from (k + 1) l name bs j m (λ c i o. all c (inr i) o) h f)
    where
      T : List (List ℕ)
      T = method_table p

      found : (c d : Bool) → nat_eq b.owner l ≡ c → bytes_eq b.signature.name name ≡ d →
          find_body k l name (b ∷ bs) ≡ (if c && d then Some (record { number = k; body = b }) else find_body (k + 1) l name bs)
      found c d t u = ap (λ q. if q && bytes_eq b.signature.name name then Some (record { number = k; body = b }) else find_body (k + 1) l name bs) t
          ∙ ap (λ q. if c && q then Some (record { number = k; body = b }) else find_body (k + 1) l name bs) u

      methods : (c : Bool) → nat_eq b.owner l ≡ c →
          body_called (number_in T name) (methods_code p l first (b ∷ bs)) ≡ body_called (number_in T name)
          (if c then record { method = number_in T b.signature.name; body = first } ∷ methods_code p l (first + 1) bs else methods_code p l
          (first + 1) bs)
      methods c t = ap (λ q. body_called (number_in T name)
          (if q then record { method = number_in T b.signature.name; body = first } ∷ methods_code p l (first + 1) bs else methods_code p l
          (first + 1) bs)) t

      later : Called (k + 1) l name bs (first + 1) m →
          body_called (number_in T name) (methods_code p l first (b ∷ bs)) ≡ body_called (number_in T name) (methods_code p l (first + 1) bs) →
          Called k l name (b ∷ bs) first m
      later r c = record {
        offset = suc r.offset;
        number = let z : k + 1 + r.offset ≡ k + suc r.offset = omega arith in r.number ∙ z;
        is = r.is;
        owner = r.owner;
        named = r.named;
        coded = let z : first + 1 + r.offset ≡ first + suc r.offset = omega arith in c ∙ (r.coded ∙ ap (λ (j : ℕ). Some j) z);
      }

      of : (c d : Bool) → nat_eq b.owner l ≡ c → bytes_eq b.signature.name name ≡ d →
          ((find_body (k + 1) l name bs ≡ Some m) → (j : ℕ) → Called (k + 1) l name bs j m) → Called k l name (b ∷ bs) first m
      of true true t u rest =
          let f : record { number = k; body = b } ≡ m = some_is (sym (found true true t u) ∙ e) in
          let same : b.signature.name ≡ name = (bytes_eq-Decides b.signature.name name).0 u in
          subst (λ (y : Method). Called k l name (b ∷ bs) first y) f (record {
            offset = 0;
            number = omega arith;
            is = refl;
            owner = eqb-true b.owner l t;
            named = same;
            coded = methods true t ∙ (picked (nat_eq (number_in T b.signature.name) (number_in T name)) (Some first)
                (body_called (number_in T name) (methods_code p l (first + 1) bs)) (eq-eqb _ _ (ap (number_in T) same))
                ∙ (let z : first ≡ first + 0 = omega arith in ap (λ (j : ℕ). Some j) z));
          })
      of true false t u rest = later (rest (sym (found true false t u) ∙ e) (first + 1))
          (methods true t ∙ not_picked (nat_eq (number_in T b.signature.name) (number_in T name)) (Some first)
          (body_called (number_in T name) (methods_code p l (first + 1) bs)) (numbers_differ b.signature.name name (all b (inl refl) t) h u))
      of false d t u rest = later (rest (sym (found false d t u) ∙ e) (first + 1)) (methods false t)

  found_named : (k l : ℕ) (name : List ℕ) (bodies : List Body) (m : Method) → find_body k l name bodies ≡ Some m → (b : Body) × In b bodies ×
      (nat_eq b.owner l ≡ true) × (b.signature.name ≡ name)
  found_named k l name [] m e = absurd cc
  found_named k l name (b ∷ bs) m e = of (nat_eq b.owner l && bytes_eq b.signature.name name) refl (λ f. found_named (k + 1) l name bs m f)
    where
      of : (c : Bool) → (nat_eq b.owner l && bytes_eq b.signature.name name) ≡ c →
          ((find_body (k + 1) l name bs ≡ Some m) → (y : Body) × In y bs × (nat_eq y.owner l ≡ true) × (y.signature.name ≡ name)) → (y : Body) × In y (b ∷ bs) ×
          (nat_eq y.owner l ≡ true) × (y.signature.name ≡ name)
      of true t rest = (b, inl refl, (and_parts _ _ t).0, (bytes_eq-Decides b.signature.name name).0 (and_parts _ _ t).1)
      of false t rest = let r = rest (sym (not_picked _ _ _ t) ∙ e) in (r.0, inr r.1, r.2, r.3)

  owned_in : (l : ℕ) (bs : List Body) (b : Body) → In b bs → nat_eq b.owner l ≡ true → In b.signature.name (owned_names l bs)
  owned_in l [] b j e = absurd j
  owned_in l (c ∷ bs) b (inl same) e =
      let z : nat_eq c.owner l ≡ true = ap (λ (y : Body). nat_eq y.owner l) same ∙ e in
      subst (λ t. In b.signature.name (if t then c.signature.name ∷ owned_names l bs else owned_names l bs)) (sym z)
      (inl (ap (λ (y : Body). y.signature.name) same))
  owned_in l (c ∷ bs) b (inr j) e = of (nat_eq c.owner l) (owned_in l bs b j e)
    where
      of : (t : Bool) → In b.signature.name (owned_names l bs) → In b.signature.name (if t then c.signature.name ∷ owned_names l bs else owned_names l bs)
      of true h = inr h
      of false h = h

  kinds_in : (k l : ℕ) (xs : List Literal) (literal : Literal) → slice_get xs l ≡ Some literal → (bs : List Body) (b : Body) → In b bs →
      nat_eq b.owner (k + l) ≡ true → In b.signature.name (kinds_names k xs bs)
  kinds_in k l [] literal e bs b j h = absurd cc
  kinds_in k zero (x ∷ xs) literal e bs b j h =
      let z : k + 0 ≡ k = omega arith in
      In-left _ _ _ (owned_in k bs b j (subst (λ (n : ℕ). nat_eq b.owner n ≡ true) z h))
  kinds_in k (suc l) (x ∷ xs) literal e bs b j h =
      let z : k + suc l ≡ k + 1 + l = omega arith in
      In-right _ _ _ (kinds_in (k + 1) l xs literal e bs b j (subst (λ (n : ℕ). nat_eq b.owner n ≡ true) z h))

  entry_in : (scopes : List Scope) (sc : Scope) (x : List ℕ) → In sc scopes → In x (kinds_names 0 sc.literals sc.bodies) → In x (entry_names scopes)
  entry_in [] sc x h j = absurd h
  entry_in (y ∷ ys) sc x (inl e) j = In-left _ _ _ (subst (λ (z : Scope). In x (kinds_names 0 z.literals z.bodies)) (sym e) j)
  entry_in (y ∷ ys) sc x (inr h) j = In-right _ _ _ (entry_in ys sc x h j)

  body_has_number : (sc : Scope) → In sc p.scopes → (l : ℕ) (literal : Literal) → slice_get sc.literals l ≡ Some literal → (b : Body) → In b sc.bodies →
      nat_eq b.owner l ≡ true → HasNumber b.signature.name
  unfolding lowered
  body_has_number sc h l literal there b j owner =
      let z : l ≡ 0 + l = omega arith in
      has_method_names p st b.signature.name (In-right _ (calls_in (scopes_parts p.scopes)) _
      (entry_in p.scopes sc b.signature.name h (kinds_in 0 l sc.literals literal there sc.bodies b j (subst (λ (n : ℕ). nat_eq b.owner n ≡ true) z owner))))

  -- the method that the meaning finds stands among the code's bodies at the number that the literal has for it
  pub method_coded : (k : ℕ) (sc : Scope) → scope_of_instance p st k ≡ Some sc → (l : ℕ) (literal : Literal) →
      slice_get sc.literals l ≡ Some literal → (name : List ℕ) (m : Method) → method_in (Some sc) l name ≡ Some m →
      (slice_get sc.bodies m.number ≡ Some m.body) × (m.body.owner ≡ l) × (m.body.signature.name ≡ name) ×
      (method_of_literal (lowered p st) (literal_of (lowered p st) k l) (number_in (method_table p) name) ≡ Some (body_code p st sc m.number m.body))
  method_coded k sc here l literal e name m f =
      let c = scope_coded k sc here in
      let inside = in_list p.scopes c.instance.scope sc c.there in
      let all : (b : Body) → In b sc.bodies → nat_eq b.owner l ≡ true → HasNumber b.signature.name = body_has_number sc inside l literal e in
      let n = found_named 0 l name sc.bodies m f in
      let h : HasNumber name = subst (λ (t : List ℕ). HasNumber t) n.3 (all n.0 n.1 n.2) in
      let r = called_from 0 l name sc.bodies (c.stands.first + 1) m all h f in
      let z : r.offset ≡ m.number = omega (arith, r.number) in
      let is : slice_get sc.bodies m.number ≡ Some m.body = ap (slice_get sc.bodies) (sym z) ∙ r.is in (
        is,
        r.owner,
        r.named,
        ap (λ o. method_of_literal (lowered p st) o (number_in (method_table p) name)) (literal_is k sc c l literal e)
            ∙ ap (body_numbered (lowered p st)) r.coded
            ∙ ap (λ (j : ℕ). slice_get (lowered p st).bodies (c.stands.first + 1 + j)) z
            ∙ c.stands.bodies m.number m.body is,
      )
