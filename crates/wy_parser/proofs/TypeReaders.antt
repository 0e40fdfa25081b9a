-- Sets, types and signatures: each reader is exact.
use Rattle.std.proofs.Common.{ℕ, ◌≤◌, Bool, true, false, List, [], ◌∷◌, refl, sym, subst, inl, inr}
use Rattle.std.specs.Prelude.{Option, None, Some}
use Rattle.wy_text.specs.declared.fault.Place.{Place}
use Rattle.wy_text.specs.declared.token.TokenKind.TheVariants as kind
use Rattle.wy_syntax.specs.declared.types.Name.{Name}
use Rattle.wy_syntax.specs.declared.types.AtomUse.{AtomUse}
use Rattle.wy_syntax.specs.declared.types.MemberSet.{MemberSet}
use Rattle.wy_syntax.specs.declared.types.TypeUse.{TypeUse}
use Rattle.wy_syntax.specs.declared.types.TypeUse.TheVariants as types
use Rattle.wy_syntax.specs.declared.types.Param.{Param}
use Rattle.wy_syntax.specs.declared.types.Signature.{Signature}
use Rattle.wy_syntax.specs.Tokens.{Tok}
use Rattle.wy_syntax.specs.Languages.{Mark, Word, Commas1}
use Rattle.wy_syntax.specs.TypeGrammar.{OwnedName, SpellsAtom, SpellsSet, SpellsMemberSet, SpellsObject, SpellsType, SpellsParam, SpellsModuleParam, SpellsEffect, SpellsSignature}
use Rattle.wy_parser.specs.Parsing.{member_alone, atom, set, member_set, object_rest, object, type_use, param, effect, signature}
use Rattle.wy_parser.proofs.Made.{Made, SeqOf, MapOf, IsOf, Or, seq, map_to, give, alt, become, nullable, made_mark, made_word, made_commas, made_commas1, pass, unpass, all_of, alone_of, map_of, sign, unsign}

abbrev owned_by : Name → Name → AtomUse
owned_by n w = record { owner = Some n; member = w }

pub made_atom : (m : ℕ) → Made atom atom (λ a u. SpellsAtom a u) (1 ∷ []) (46 ∷ []) false m
unfolding atom
made_atom m = become (seq (made_word m) (λ n. alt (46 ∷ []) (seq (made_mark 46 m refl) (λ k. map_to (λ w. owned_by n w) (made_word m)) refl) (give (member_alone n) m) refl) refl)
    (λ a u s. elim s.second [
      | inl t ↦ subst (λ y. SpellsAtom y u) (sym t.second.is) (pass s s.first (pass t (sign t.first) t.second.spelled))
      | inr t ↦ subst (λ y. SpellsAtom y u) (sym t.same) (alone_of (Word s.value) s t.empty s.first)
    ])
    (λ a u s. from a.owner a.member u s) refl
  where
    from : (o : Option Name) (m : Name) (u : List Tok) → OwnedName o m u → SeqOf (λ n. Word n) (λ n. Or (SeqOf (λ p. Mark kind.SymDot p) (λ k. MapOf (λ w. owned_by n w) (λ w. Word w))) (IsOf (member_alone n))) (record { owner = o; member = m }) u
    from None m u s = all_of m s (inr (record { same = refl; empty = refl }))
    from (Some n) m u s = unpass s n s.first (inl (unpass s.second s.second.first.token.place (unsign s.second.first) (map_of m refl s.second.second)))

pub made_set : (n n' m : ℕ) → n ≤ n' → m ≤ n → Made (set n) (set n') (λ s u. SpellsSet s u) (42 ∷ []) [] false m
unfolding set
made_set n n' m h k = become (
    seq (made_mark 42 m refl) (λ k0.
    seq (made_commas n n' h k (made_atom m) refl refl) (λ x.
    map_to (λ k2. x) (made_mark 43 m refl)) refl) refl)
    (λ z u s. subst (λ y. SpellsSet y u) (sym s.second.second.is) (pass s (sign s.first) (pass s.second s.second.first (sign s.second.second.spelled))))
    (λ z u s. (unpass s s.first.token.place (unsign s.first) (unpass s.second z s.second.first (map_of s.second.second.token.place refl (unsign s.second.second))))) refl

abbrev member_set_of : Name → List AtomUse → MemberSet
member_set_of w x = record { name = w; effect = x }

pub made_member_set : (n n' m : ℕ) → n ≤ n' → m ≤ n → Made (member_set n) (member_set n') (λ s u. SpellsMemberSet s u) (1 ∷ []) [] false m
unfolding member_set
made_member_set n n' m h k = become (
    seq (made_word m) (λ w.
    seq (made_mark 47 m refl) (λ k1.
    map_to (λ x. member_set_of w x) (made_set n n' m h k)) refl) refl)
    (λ z u s. subst (λ y. SpellsMemberSet y u) (sym s.second.second.is) (pass s s.first (pass s.second (sign s.second.first) s.second.second.spelled)))
    (λ z u s. (unpass s z.name s.first (unpass s.second s.second.first.token.place (unsign s.second.first) (map_of z.effect refl s.second.second)))) refl

pub made_object : (plain : Bool) → (n n' m : ℕ) → n ≤ n' → m ≤ n → Made (object plain n) (object plain n') (λ t u. SpellsObject plain t u) (1 ∷ []) (40 ∷ 16 ∷ []) false m
unfolding object object_rest
made_object true n n' m h k = become (seq (made_word m) (λ w. give (types.Bare w) m) refl)
    (λ t u s. subst (λ y. SpellsObject true y u) (sym s.second.same) (alone_of (Word s.value) s s.second.empty s.first))
    (λ t u s. from t u s) refl
  where
    from : (t : TypeUse) (u : List Tok) → SpellsObject true t u → SeqOf (λ n. Word n) (λ w. IsOf (types.Bare w)) t u
    from (types.Int p) u s = absurd s
    from (types.Bool p) u s = absurd s
    from (types.Text p) u s = absurd s
    from (types.Unit p) u s = absurd s
    from (types.Bare w) u s = all_of w s (record { same = refl; empty = refl })
    from (types.With w ms) u s = absurd cc
    from (types.At w x) u s = absurd cc
made_object false n n' m h k = become (seq (made_word m) (λ w. alt (40 ∷ []) (
    seq (made_mark 40 m refl) (λ k0.
    seq (made_commas1 n n' h k (made_member_set n n' m h k) refl) (λ ms.
    map_to (λ k2. types.With w ms) (made_mark 41 m refl)) refl) refl) (alt (16 ∷ []) (
    seq (made_mark 16 m refl) (λ k0.
    map_to (λ x. types.At w x) (made_set n n' m h k)) refl) (give (types.Bare w) m) refl) refl) refl)
    (λ t u s. elim s.second [
      | inl r ↦ subst (λ y. SpellsObject false y u) (sym r.second.second.is) (refl, pass s s.first (pass r (sign r.first) (pass r.second r.second.first (sign r.second.second.spelled))))
      | inr r ↦ elim r [
        | inl q ↦ subst (λ y. SpellsObject false y u) (sym q.second.is) (refl, pass s s.first (pass q (sign q.first) q.second.spelled))
        | inr q ↦ subst (λ y. SpellsObject false y u) (sym q.same) (alone_of (Word s.value) s q.empty s.first)
      ]
    ])
    (λ t u s. from t u s) refl
  where
    from : (t : TypeUse) (u : List Tok) → SpellsObject false t u → SeqOf (λ n. Word n) (λ w. Or (SeqOf (λ p. Mark kind.SymOpenBracket p) (λ a. SeqOf (λ ms u. Commas1 SpellsMemberSet ms u) (λ ms. MapOf (λ c. types.With w ms) (λ p. Mark kind.SymCloseBracket p)))) (Or (SeqOf (λ p. Mark kind.KwAt p) (λ a. MapOf (λ x. types.At w x) (λ x u. SpellsSet x u))) (IsOf (types.Bare w)))) t u
    from (types.Int p) u s = absurd s
    from (types.Bool p) u s = absurd s
    from (types.Text p) u s = absurd s
    from (types.Unit p) u s = absurd s
    from (types.Bare w) u s = all_of w s (inr (inr (record { same = refl; empty = refl })))
    from (types.With w ms) u (e, s) = unpass s w s.first (inl (unpass s.second s.second.first.token.place (unsign s.second.first) (unpass s.second.second ms s.second.second.first (map_of s.second.second.second.token.place refl (unsign s.second.second.second)))))
    from (types.At w x) u (e, s) = unpass s w s.first (inr (inl (unpass s.second s.second.first.token.place (unsign s.second.first) (map_of x refl s.second.second))))

pub made_type : (plain : Bool) → (n n' m : ℕ) → n ≤ n' → m ≤ n → Made (type_use plain n) (type_use plain n') (λ t u. SpellsType plain t u) (1 ∷ 29 ∷ 30 ∷ 31 ∷ 32 ∷ []) (40 ∷ 16 ∷ []) false m
unfolding type_use
made_type plain n n' m h k = become
    (alt (29 ∷ []) (map_to (λ p. types.Int p) (made_mark 29 m refl))
    (alt (30 ∷ []) (map_to (λ p. types.Bool p) (made_mark 30 m refl))
    (alt (31 ∷ []) (map_to (λ p. types.Text p) (made_mark 31 m refl))
    (alt (32 ∷ []) (map_to (λ p. types.Unit p) (made_mark 32 m refl)) (made_object plain n n' m h k) refl) refl) refl) refl)
    (λ t u s. to t u s) (λ t u s. from t u s) refl
  where
    to : (t : TypeUse) (u : List Tok) → Or (MapOf (λ p. types.Int p) (λ p. Mark kind.KwInt p)) (Or (MapOf (λ p. types.Bool p) (λ p. Mark kind.KwBool p)) (Or (MapOf (λ p. types.Text p) (λ p. Mark kind.KwString p)) (Or (MapOf (λ p. types.Unit p) (λ p. Mark kind.KwUnit p)) (λ t u. SpellsObject plain t u)))) t u → SpellsType plain t u
    to t u (inl s) = subst (λ y. SpellsType plain y u) (sym s.is) s.spelled
    to t u (inr (inl s)) = subst (λ y. SpellsType plain y u) (sym s.is) s.spelled
    to t u (inr (inr (inl s))) = subst (λ y. SpellsType plain y u) (sym s.is) s.spelled
    to t u (inr (inr (inr (inl s)))) = subst (λ y. SpellsType plain y u) (sym s.is) s.spelled
    to (types.Int p) u (inr (inr (inr (inr s)))) = absurd s
    to (types.Bool p) u (inr (inr (inr (inr s)))) = absurd s
    to (types.Text p) u (inr (inr (inr (inr s)))) = absurd s
    to (types.Unit p) u (inr (inr (inr (inr s)))) = absurd s
    to (types.Bare w) u (inr (inr (inr (inr s)))) = s
    to (types.With w ms) u (inr (inr (inr (inr s)))) = s
    to (types.At w x) u (inr (inr (inr (inr s)))) = s

    from : (t : TypeUse) (u : List Tok) → SpellsType plain t u → Or (MapOf (λ p. types.Int p) (λ p. Mark kind.KwInt p)) (Or (MapOf (λ p. types.Bool p) (λ p. Mark kind.KwBool p)) (Or (MapOf (λ p. types.Text p) (λ p. Mark kind.KwString p)) (Or (MapOf (λ p. types.Unit p) (λ p. Mark kind.KwUnit p)) (λ t u. SpellsObject plain t u)))) t u
    from (types.Int p) u s = inl (map_of p refl s)
    from (types.Bool p) u s = inr (inl (map_of p refl s))
    from (types.Text p) u s = inr (inr (inl (map_of p refl s)))
    from (types.Unit p) u s = inr (inr (inr (inl (map_of p refl s))))
    from (types.Bare w) u s = inr (inr (inr (inr s)))
    from (types.With w ms) u s = inr (inr (inr (inr s)))
    from (types.At w x) u s = inr (inr (inr (inr s)))

abbrev param_of : Name → TypeUse → Param
param_of w t = record { name = w; type_use = t }

pub made_param : (plain : Bool) → (n n' m : ℕ) → n ≤ n' → m ≤ n → Made (param false plain n) (param false plain n') (λ x u. SpellsParam plain x u) (1 ∷ []) (40 ∷ 16 ∷ []) false m
unfolding param
made_param plain n n' m h k = become (
    seq (made_word m) (λ w.
    seq (made_mark 45 m refl) (λ k1.
    map_to (λ t. param_of w t) (made_type plain n n' m h k)) refl) refl)
    (λ z u s. subst (λ y. SpellsParam plain y u) (sym s.second.second.is) (pass s s.first (pass s.second (sign s.second.first) s.second.second.spelled)))
    (λ z u s. (unpass s z.name s.first (unpass s.second s.second.first.token.place (unsign s.second.first) (map_of z.type_use refl s.second.second)))) refl

pub made_module_param : (plain : Bool) → (n n' m : ℕ) → n ≤ n' → m ≤ n → Made (param true plain n) (param true plain n') (λ x u. SpellsModuleParam plain x u) (1 ∷ []) (40 ∷ 16 ∷ []) false m
unfolding param
made_module_param plain n n' m h k = become (
    seq (made_word m) (λ w.
    seq (made_mark 45 m refl) (λ k1.
    map_to (λ t. param_of w t) (made_object plain n n' m h k)) refl) refl)
    (λ z u s. subst (λ y. SpellsModuleParam plain y u) (sym s.second.second.is) (pass s s.first (pass s.second (sign s.second.first) s.second.second.spelled)))
    (λ z u s. (unpass s z.name s.first (unpass s.second s.second.first.token.place (unsign s.second.first) (map_of z.type_use refl s.second.second)))) refl

pub made_effect : (plain : Bool) → (n n' m : ℕ) → n ≤ n' → m ≤ n → Made (effect plain n) (effect plain n') (λ e u. SpellsEffect plain e u) (42 ∷ []) [] true m
unfolding effect
made_effect true n n' m h k = become (give None m)
    (λ e u s. subst (λ y. SpellsEffect true y u) (sym s.same) (refl, s.empty))
    (λ e u s. from e u s) refl
  where
    from : (e : Option (List AtomUse)) (u : List Tok) → SpellsEffect true e u → IsOf None e u
    from None u s = record { same = refl; empty = s.1 }
    from (Some x) u s = absurd cc
made_effect false n n' m h k = nullable (become (map_to (λ x. Some x) (made_set n n' m h k))
    (λ e u s. subst (λ y. SpellsEffect false y u) (sym s.is) (refl, s.spelled))
    (λ e u s. from e u s) refl)
  where
    from : (e : Option (List AtomUse)) (u : List Tok) → SpellsEffect false e u → MapOf (λ x. Some x) (λ x u. SpellsSet x u) e u
    from None u s = absurd cc
    from (Some x) u s = map_of x refl s.1

abbrev signature_of : Place → Name → List Param → Option (List AtomUse) → TypeUse → Signature
signature_of p w ps e t = record { place = p; name = w; params = ps; effect = e; result = t }

pub made_signature : (plain : Bool) → (n n' m : ℕ) → n ≤ n' → m ≤ n → Made (signature plain n) (signature plain n') (λ s u. SpellsSignature plain s u) (7 ∷ []) (40 ∷ 16 ∷ []) false m
unfolding signature
made_signature plain n n' m h k = become (
    seq (made_mark 7 m refl) (λ p.
    seq (made_word m) (λ w.
    seq (made_mark 38 m refl) (λ k2.
    seq (made_commas n n' h k (made_param plain n n' m h k) refl refl) (λ ps.
    seq (made_mark 39 m refl) (λ k4.
    seq (made_mark 45 m refl) (λ k5.
    seq (made_effect plain n n' m h k) (λ e.
    map_to (λ t. signature_of p w ps e t) (made_type plain n n' m h k)) refl) refl) refl) refl) refl) refl) refl)
    (λ z u s. subst (λ y. SpellsSignature plain y u) (sym s.second.second.second.second.second.second.second.is) (pass s s.first (pass s.second s.second.first (pass s.second.second (sign s.second.second.first) (pass s.second.second.second s.second.second.second.first (pass s.second.second.second.second (sign s.second.second.second.second.first) (pass s.second.second.second.second.second (sign s.second.second.second.second.second.first) (pass s.second.second.second.second.second.second s.second.second.second.second.second.second.first s.second.second.second.second.second.second.second.spelled))))))))
    (λ z u s. (unpass s z.place s.first (unpass s.second z.name s.second.first (unpass s.second.second s.second.second.first.token.place (unsign s.second.second.first) (unpass s.second.second.second z.params s.second.second.second.first (unpass s.second.second.second.second s.second.second.second.second.first.token.place (unsign s.second.second.second.second.first) (unpass s.second.second.second.second.second s.second.second.second.second.second.first.token.place (unsign s.second.second.second.second.second.first) (unpass s.second.second.second.second.second.second z.effect s.second.second.second.second.second.second.first (map_of z.result refl s.second.second.second.second.second.second.second))))))))) refl
