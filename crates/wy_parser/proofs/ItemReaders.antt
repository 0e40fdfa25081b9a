-- Items and files: each reader is exact.
use Rattle.std.proofs.Common.{◌≡◌, ℕ, ◌-◌, ◌≤◌, Bool, true, false, List, [], ◌∷◌, ◌++◌, refl, sym, ap, subst, ◌∙◌, arith, inl, inr, append_assoc}
use Rattle.std.specs.Prelude.{Option, None, Some}
use Rattle.wy_text.specs.declared.fault.Place.{Place}
use Rattle.wy_text.specs.declared.token.TokenKind.TheVariants as kind
use Rattle.wy_syntax.specs.declared.types.Name.{Name}
use Rattle.wy_syntax.specs.declared.types.AtomUse.{AtomUse}
use Rattle.wy_syntax.specs.declared.items.Member.{Member}
use Rattle.wy_syntax.specs.declared.items.Member.TheVariants as members
use Rattle.wy_syntax.specs.declared.items.Line.{Line}
use Rattle.wy_syntax.specs.declared.items.Line.TheVariants as lines
use Rattle.wy_syntax.specs.declared.items.Define.{Define}
use Rattle.wy_syntax.specs.declared.items.Init.{Init}
use Rattle.wy_syntax.specs.declared.items.Grant.{Grant}
use Rattle.wy_syntax.specs.Tokens.{Tok}
use Rattle.wy_syntax.specs.Trees.{PartTree, PartTrees, no_parts, parts_of, InsideTree, ItemTree, type_item, pure_item, resource_item, plain_item, program_item}
use Rattle.wy_syntax.specs.Languages.{Sign, Mark, Word, Each, Commas, Indented, InParens, ◌⨟◌}
use Rattle.wy_syntax.specs.TypeGrammar.{SpellsSet, SpellsModuleParam, SpellsSignature}
use Rattle.wy_syntax.specs.StmtGrammar.{SpellsPart, SpellsParts, SpellsTail}
use Rattle.wy_syntax.specs.Grammar.{SpellsMember, SpellsUse, SpellsLine, SpellsDefine, SpellsInit, SpellsGrant, nothing_inside, SpellsInside, SpellsItem}
use Rattle.wy_parser.specs.Reading.{◌>>=◌, ret}
use Rattle.wy_parser.specs.Parsing.{mark, each}
use Rattle.wy_parser.specs.StmtParsing.{part_first, part_at}
use Rattle.wy_parser.specs.ItemParsing.{set_line, effect_member, method_member, member_of, member_first, members_inside, use_of, arguments, line_with, line_of, line_first, define_of, init_of, grant_of, inside_lines, inside_of, type_of, pure_of, params_of, with_params, program_of, item_first, item, items}
use Rattle.wy_parser.proofs.KindNumbers.{kind_at}
use Rattle.wy_parser.proofs.Made.{Made, SeqOf, MapOf, IsOf, Or, seq, map_to, give, alt, become, marks, made_mark, made_word, self_true, made_each, made_commas, pass, unpass, map_of, sign, unsign}
use Rattle.wy_parser.proofs.TypeReaders.{made_set, made_signature, made_module_param}
use Rattle.wy_parser.proofs.StmtReaders.{listed_parts, parts_back, parts_to, parts_from, made_parts_inside, all_stmts, made_part_at, made_tail_at}

-- ---- a sign, a set and the end of the line

abbrev SetLine : ℕ → List AtomUse → List Tok → Type 0
SetLine k s = Sign (kind_at k) ⨟ SpellsSet s ⨟ Sign kind.Nl

made_set_line : (k n n' m : ℕ) → marks k ≡ true → n ≤ n' → m ≤ n → Made (set_line k n) (set_line k n') (λ s u. SetLine k s u) (k ∷ []) [] false m
made_set_line k n n' m e h j = become (
    seq (made_mark k m e) (λ k0.
    seq (made_set n n' m h j) (λ s.
    map_to (λ k2. s) (made_mark 63 m refl)) refl) refl)
    (λ z u s. subst (λ y. SetLine k y u) (sym s.second.second.is) (pass s (sign s.first) (pass s.second s.second.first (sign s.second.second.spelled))))
    (λ z u s. (unpass s s.first.token.place (unsign s.first) (unpass s.second z s.second.first (map_of s.second.second.token.place refl (unsign s.second.second))))) (self_true (k ∷ []) [])

-- ---- members of a type

abbrev Defined : Name → Member → List Tok → Type 0
Defined w = MapOf (λ s. members.Defined w s) (λ s u. SetLine 47 s u)

abbrev Bounded : Name → Member → List Tok → Type 0
Bounded w = MapOf (λ s. members.Bounded w s) (λ s u. SetLine 51 s u)

abbrev Abstract : Name → Member → List Tok → Type 0
Abstract w = MapOf (λ k0. members.Abstract w) (λ q. Mark kind.Nl q)

abbrev EffectMembers : Member → List Tok → Type 0
EffectMembers = SeqOf (λ q. Mark kind.KwEffect q) (λ p. SeqOf (λ w. Word w) (λ w. Or (Defined w) (Or (Bounded w) (Abstract w))))

made_effect_member : (n n' m : ℕ) → n ≤ n' → m ≤ n → Made (effect_member n) (effect_member n') EffectMembers (6 ∷ []) [] false m
unfolding effect_member
made_effect_member n n' m h k = seq (made_mark 6 m refl) (λ p. seq (made_word m) (λ w. alt (47 ∷ [])
    (map_to (λ s. members.Defined w s) (made_set_line 47 n n' m refl h k))
    (alt (51 ∷ [])
    (map_to (λ s. members.Bounded w s) (made_set_line 51 n n' m refl h k))
    (map_to (λ k0. members.Abstract w) (made_mark 63 m refl)) refl) refl) refl) refl

made_method_member : (n n' m : ℕ) → n ≤ n' → m ≤ n → Made (method_member n) (method_member n') (SeqOf (λ s u. SpellsSignature false s u) (λ s. MapOf (λ l. members.Method s) (λ q. Mark kind.Nl q))) (7 ∷ []) [] false m
unfolding method_member
made_method_member n n' m h k = seq (made_signature false n n' m h k) (λ s. map_to (λ l. members.Method s) (made_mark 63 m refl)) refl

abbrev Members : Member → List Tok → Type 0
Members = Or EffectMembers (SeqOf (λ s u. SpellsSignature false s u) (λ s. MapOf (λ l. members.Method s) (λ q. Mark kind.Nl q)))

member_to : (z : Member) (u : List Tok) → Members z u → SpellsMember z u
member_to z u (inl s) = go s.second.second
  where
    go : Or (Defined s.second.value) (Or (Bounded s.second.value) (Abstract s.second.value)) z s.second.back → SpellsMember z u
    go (inl t) = subst (λ (y : Member). SpellsMember y u) (sym t.is) (pass s (sign s.first) (pass s.second s.second.first t.spelled))
    go (inr (inl t)) = subst (λ (y : Member). SpellsMember y u) (sym t.is) (pass s (sign s.first) (pass s.second s.second.first t.spelled))
    go (inr (inr t)) = subst (λ (y : Member). SpellsMember y u) (sym t.is) (pass s (sign s.first) (pass s.second s.second.first (sign t.spelled)))
member_to z u (inr s) = subst (λ (y : Member). SpellsMember y u) (sym s.second.is) (pass s s.first (sign s.second.spelled))

member_from : (z : Member) (u : List Tok) → SpellsMember z u → Members z u
member_from (members.Abstract w) u s = inl (unpass s s.first.token.place (unsign s.first) (unpass s.second w s.second.first (inr (inr (map_of s.second.second.token.place refl (unsign s.second.second))))))
member_from (members.Bounded w x) u s = inl (unpass s s.first.token.place (unsign s.first) (unpass s.second w s.second.first (inr (inl (map_of x refl s.second.second)))))
member_from (members.Defined w x) u s = inl (unpass s s.first.token.place (unsign s.first) (unpass s.second w s.second.first (inl (map_of x refl s.second.second))))
member_from (members.Method x) u s = inr (unpass s x s.first (map_of s.second.token.place refl (unsign s.second)))

made_member : (n n' m : ℕ) → n ≤ n' → m ≤ n → Made (member_of n) (member_of n') (λ z u. SpellsMember z u) member_first [] false m
unfolding member_of
made_member n n' m h k = become (alt (6 ∷ []) (made_effect_member n n' m h k) (made_method_member n n' m h k) refl) member_to member_from refl

made_members_inside : (n n' m : ℕ) → n ≤ n' → m ≤ n → Made (members_inside n) (members_inside n') (λ ms u. Indented (ms ≡ []) (Each SpellsMember ms) u) (64 ∷ []) (64 ∷ []) true m
unfolding members_inside
made_members_inside n n' m h k = become (alt (64 ∷ []) (
    seq (made_mark 64 m refl) (λ k0.
    seq (made_each n n' h k (made_member n n' m h k) refl) (λ ms.
    map_to (λ k2. ms) (made_mark 65 m refl)) refl) refl) (give [] m) refl)
    (λ z u s. elim s [
      | inl t ↦ subst (λ (y : List Member). Indented (y ≡ []) (Each SpellsMember y) u) (sym t.second.second.is) (inr (pass t (sign t.first) (pass t.second t.second.first (sign t.second.second.spelled))))
      | inr t ↦ inl (t.same, t.empty)
    ])
    (λ z u s. elim s [
      | inl t ↦ inr (record { same = t.0; empty = t.1 })
      | inr t ↦ inl (unpass t t.first.token.place (unsign t.first) (unpass t.second z t.second.first (map_of t.second.second.token.place refl (unsign t.second.second))))
    ]) refl

-- ---- lines

pub made_use : (m : ℕ) → Made use_of use_of (λ w u. SpellsUse w u) (13 ∷ []) [] false m
unfolding use_of
made_use m = become (
    seq (made_mark 13 m refl) (λ k0.
    seq (made_word m) (λ w.
    map_to (λ k2. w) (made_mark 63 m refl)) refl) refl)
    (λ z u s. subst (λ y. SpellsUse y u) (sym s.second.second.is) (pass s (sign s.first) (pass s.second s.second.first (sign s.second.second.spelled))))
    (λ z u s. (unpass s s.first.token.place (unsign s.first) (unpass s.second z s.second.first (map_of s.second.second.token.place refl (unsign s.second.second))))) refl

made_arguments : (n n' m : ℕ) → n ≤ n' → m ≤ n → Made (arguments n) (arguments n') (λ ns u. InParens (Commas Word ns) u) (38 ∷ []) [] false m
made_arguments n n' m h k = become (
    seq (made_mark 38 m refl) (λ k0.
    seq (made_commas n n' h k (made_word m) refl refl) (λ x.
    map_to (λ k2. x) (made_mark 39 m refl)) refl) refl)
    (λ z u s. subst (λ y. InParens (Commas Word y) u) (sym s.second.second.is) (pass s (sign s.first) (pass s.second s.second.first (sign s.second.second.spelled))))
    (λ z u s. (unpass s s.first.token.place (unsign s.first) (unpass s.second z s.second.first (map_of s.second.second.token.place refl (unsign s.second.second))))) refl

abbrev Instances : Line → List Tok → Type 0
Instances = SeqOf (λ q. Mark kind.KwInstance q) (λ k0. SeqOf (λ w. Word w) (λ x. SeqOf (λ q. Mark kind.SymEqual q) (λ k2. SeqOf (λ w. Word w) (λ y. SeqOf (λ ns u. InParens (Commas Word ns) u) (λ ns. MapOf (λ k5. lines.Instance x y ns) (λ q. Mark kind.Nl q))))))

abbrev Imports : Line → List Tok → Type 0
Imports = SeqOf (λ q. Mark kind.KwImport q) (λ k0. SeqOf (λ w. Word w) (λ x. SeqOf (λ q. Mark kind.SymEqual q) (λ k2. SeqOf (λ w. Word w) (λ y. SeqOf (λ ns u. InParens (Commas Word ns) u) (λ ns. MapOf (λ s. lines.Import x y ns s) (λ s u. SetLine 16 s u))))))

made_instance : (n n' m : ℕ) → n ≤ n' → m ≤ n → Made (line_with 14 false n) (line_with 14 false n') Instances (14 ∷ []) [] false m
unfolding line_with
made_instance n n' m h k =
    seq (made_mark 14 m refl) (λ k0.
    seq (made_word m) (λ x.
    seq (made_mark 47 m refl) (λ k2.
    seq (made_word m) (λ y.
    seq (made_arguments n n' m h k) (λ ns.
    map_to (λ k5. lines.Instance x y ns) (made_mark 63 m refl)) refl) refl) refl) refl) refl

made_import : (n n' m : ℕ) → n ≤ n' → m ≤ n → Made (line_with 15 true n) (line_with 15 true n') Imports (15 ∷ []) [] false m
unfolding line_with
made_import n n' m h k =
    seq (made_mark 15 m refl) (λ k0.
    seq (made_word m) (λ x.
    seq (made_mark 47 m refl) (λ k2.
    seq (made_word m) (λ y.
    seq (made_arguments n n' m h k) (λ ns.
    map_to (λ s. lines.Import x y ns s) (made_set_line 16 n n' m refl h k)) refl) refl) refl) refl) refl

made_line : (n n' m : ℕ) → n ≤ n' → m ≤ n → Made (line_of n) (line_of n') (λ z u. SpellsLine z u) line_first [] false m
unfolding line_of
made_line n n' m h k = become (alt (14 ∷ []) (made_instance n n' m h k) (made_import n n' m h k) refl)
    (λ z u s. elim s [
      | inl t ↦ subst (λ y. SpellsLine y u) (sym t.second.second.second.second.second.is) (pass t (sign t.first) (pass t.second t.second.first (pass t.second.second (sign t.second.second.first) (pass t.second.second.second t.second.second.second.first (pass t.second.second.second.second t.second.second.second.second.first (sign t.second.second.second.second.second.spelled))))))
      | inr t ↦ subst (λ y. SpellsLine y u) (sym t.second.second.second.second.second.is) (pass t (sign t.first) (pass t.second t.second.first (pass t.second.second (sign t.second.second.first) (pass t.second.second.second t.second.second.second.first (pass t.second.second.second.second t.second.second.second.second.first t.second.second.second.second.second.spelled)))))
    ])
    (λ z u s. from z u s) refl
  where
    from : (z : Line) (u : List Tok) → SpellsLine z u → Or Instances Imports z u
    from (lines.Instance x y ns) u s = inl (unpass s s.first.token.place (unsign s.first) (unpass s.second x s.second.first (unpass s.second.second s.second.second.first.token.place (unsign s.second.second.first) (unpass s.second.second.second y s.second.second.second.first (unpass s.second.second.second.second ns s.second.second.second.second.first (map_of s.second.second.second.second.second.token.place refl (unsign s.second.second.second.second.second)))))))
    from (lines.Import x y ns b) u s = inr (unpass s s.first.token.place (unsign s.first) (unpass s.second x s.second.first (unpass s.second.second s.second.second.first.token.place (unsign s.second.second.first) (unpass s.second.second.second y s.second.second.second.first (unpass s.second.second.second.second ns s.second.second.second.second.first (map_of b refl s.second.second.second.second.second))))))

abbrev define_with : Name → List AtomUse → Define
define_with w s = record { name = w; effect = s }

pub made_define : (n n' m : ℕ) → n ≤ n' → m ≤ n → Made (define_of n) (define_of n') (λ d u. SpellsDefine d u) (6 ∷ []) [] false m
unfolding define_of
made_define n n' m h k = become (
    seq (made_mark 6 m refl) (λ k0.
    seq (made_word m) (λ w.
    map_to (λ s. define_with w s) (made_set_line 47 n n' m refl h k)) refl) refl)
    (λ z u s. subst (λ y. SpellsDefine y u) (sym s.second.second.is) (pass s (sign s.first) (pass s.second s.second.first s.second.second.spelled)))
    (λ z u s. (unpass s s.first.token.place (unsign s.first) (unpass s.second z.name s.second.first (map_of z.effect refl s.second.second)))) refl

abbrev init_with : Place → List AtomUse → Option Init
init_with p s = Some (record { place = p; effect = s })

abbrev InitLine : Option Init → List Tok → Type 0
InitLine = SeqOf (λ q. Mark kind.KwInit q) (λ p. MapOf (λ s. init_with p s) (λ s u. SetLine 45 s u))

made_init : (n n' m : ℕ) → n ≤ n' → m ≤ n → Made (init_of n) (init_of n') (λ i u. SpellsInit i u) (17 ∷ []) (17 ∷ []) true m
unfolding init_of
made_init n n' m h k = become (alt (17 ∷ []) (
    seq (made_mark 17 m refl) (λ p.
    map_to (λ s. init_with p s) (made_set_line 45 n n' m refl h k)) refl) (give None m) refl)
    (λ z u s. elim s [
      | inl t ↦ subst (λ y. SpellsInit y u) (sym t.second.is) (pass t t.first t.second.spelled)
      | inr t ↦ subst (λ (y : Option Init). SpellsInit y u) (sym t.same) t.empty
    ])
    (λ z u s. from z u s) refl
  where
    from : (z : Option Init) (u : List Tok) → SpellsInit z u → Or InitLine (IsOf None) z u
    from None u s = inr (record { same = refl; empty = s })
    from (Some i) u s = inl (unpass s i.place s.first (map_of i.effect refl s.second))

abbrev grant_with : Name → Name → Grant
grant_with w t = record { name = w; kind = t }

made_grant : (m : ℕ) → Made grant_of grant_of (λ g u. SpellsGrant g u) (12 ∷ []) [] false m
unfolding grant_of
made_grant m = become (
    seq (made_mark 12 m refl) (λ k0.
    seq (made_word m) (λ w.
    seq (made_mark 45 m refl) (λ k2.
    seq (made_word m) (λ t.
    map_to (λ k4. grant_with w t) (made_mark 63 m refl)) refl) refl) refl) refl)
    (λ z u s. subst (λ y. SpellsGrant y u) (sym s.second.second.second.second.is) (pass s (sign s.first) (pass s.second s.second.first (pass s.second.second (sign s.second.second.first) (pass s.second.second.second s.second.second.second.first (sign s.second.second.second.second.spelled))))))
    (λ z u s. (unpass s s.first.token.place (unsign s.first) (unpass s.second z.name s.second.first (unpass s.second.second s.second.second.first.token.place (unsign s.second.second.first) (unpass s.second.second.second z.kind s.second.second.second.first (map_of s.second.second.second.second.token.place refl (unsign s.second.second.second.second))))))) refl

-- ---- items; n - 1 is the bound of the bodies in them

abbrev inside_with : List Name → List Line → List Define → Option Init → List PartTree → InsideTree
inside_with us ls ds i ps = record { uses = us; lines = ls; defines = ds; init = i; parts = parts_of ps }

-- what stands in a module, between its In and its Out
abbrev InsideRest : InsideTree → List Tok → Type 0
InsideRest = SeqOf (λ z u. Each SpellsUse z u) (λ us. SeqOf (λ z u. Each SpellsLine z u) (λ ls. SeqOf (λ z u. Each SpellsDefine z u) (λ ds. SeqOf (λ z u. SpellsInit z u) (λ i. SeqOf (λ z u. Each (λ p u. SpellsPart false p u) z u) (λ ps. MapOf (λ k6. inside_with us ls ds i ps) (λ q. Mark kind.Out q))))))

made_inside_rest : (n n' m : ℕ) → n ≤ n' → m ≤ n → Made (part_at false n) (part_at false n') (λ p u. SpellsPart false p u) part_first (64 ∷ []) false m → Made (each (13 ∷ []) use_of n >>= λ us. each line_first (line_of n) n >>= λ ls. each (6 ∷ []) (define_of n) n >>= λ ds. init_of n >>= λ i. each part_first (part_at false n) n >>= λ ps. mark 65 >>= λ c. ret (inside_with us ls ds i ps)) (each (13 ∷ []) use_of n' >>= λ us. each line_first (line_of n') n' >>= λ ls. each (6 ∷ []) (define_of n') n' >>= λ ds. init_of n' >>= λ i. each part_first (part_at false n') n' >>= λ ps. mark 65 >>= λ c. ret (inside_with us ls ds i ps)) InsideRest (13 ∷ 14 ∷ 15 ∷ 6 ∷ 17 ∷ 7 ∷ 18 ∷ 19 ∷ 65 ∷ []) [] false m
made_inside_rest n n' m h k P = become (
    seq (made_each n n' h k (made_use m) refl) (λ us.
    seq (made_each n n' h k (made_line n n' m h k) refl) (λ ls.
    seq (made_each n n' h k (made_define n n' m h k) refl) (λ ds.
    seq (made_init n n' m h k) (λ i.
    seq (made_each n n' h k P refl) (λ ps.
    map_to (λ k5. inside_with us ls ds i ps) (made_mark 65 m refl)) refl) refl) refl) refl) refl) (λ z u s. s) (λ z u s. s) refl

abbrev InsideLines : InsideTree → List Tok → Type 0
InsideLines = SeqOf (λ q. Mark kind.In q) (λ p. InsideRest)

made_inside_lines : (n n' m : ℕ) → n ≤ n' → m ≤ n → Made (part_at false n) (part_at false n') (λ p u. SpellsPart false p u) part_first (64 ∷ []) false m → Made (inside_lines n) (inside_lines n') InsideLines (64 ∷ []) [] false m
unfolding inside_lines
made_inside_lines n n' m h k P = seq (made_mark 64 m refl) (λ p. made_inside_rest n n' m h k P) refl

inside_to : (z : InsideTree) (u : List Tok) → InsideLines z u → Indented (z ≡ nothing_inside) (Each SpellsUse z.uses ⨟ Each SpellsLine z.lines ⨟ Each SpellsDefine z.defines ⨟ SpellsInit z.init ⨟ SpellsParts false z.parts) u
inside_to z u s =
    let a = s.second in
    let b = a.second in
    let c = b.second in
    let d = c.second in
    let e = d.second in
    let body = a.front ++ (b.front ++ (c.front ++ (d.front ++ e.front))) in
    let there = a.parts ∙ ap (λ (w : List Tok). a.front ++ w) (b.parts ∙ ap (λ (w : List Tok). b.front ++ w) (c.parts ∙ ap (λ (w : List Tok). c.front ++ w) (d.parts ∙ ap (λ (w : List Tok). d.front ++ w) e.parts ∙ sym (append_assoc d.front e.front e.back)) ∙ sym (append_assoc c.front (d.front ++ e.front) e.back)) ∙ sym (append_assoc b.front (c.front ++ (d.front ++ e.front)) e.back)) ∙ sym (append_assoc a.front (b.front ++ (c.front ++ (d.front ++ e.front))) e.back) in
    subst (λ (y : InsideTree). SpellsInside y u) (sym e.second.is) (inr (pass s (sign s.first) (record {
      front = body;
      back = e.back;
      parts = there;
      second = sign e.second.spelled;
      first = record {
        front = a.front;
        back = b.front ++ (c.front ++ (d.front ++ e.front));
        parts = refl;
        first = a.first;
        second = record {
          front = b.front;
          back = c.front ++ (d.front ++ e.front);
          parts = refl;
          first = b.first;
          second = record {
            front = c.front;
            back = d.front ++ e.front;
            parts = refl;
            first = c.first;
            second = record { front = d.front; back = e.front; parts = refl; first = d.first; second = parts_to false e.value e.front e.first };
          };
        };
      };
    })))

inside_from : (z : InsideTree) (u : List Tok) → SpellsInside z u → Or InsideLines (IsOf nothing_inside) z u
inside_from z u (inl t) = inr (record { same = t.0; empty = t.1 })
inside_from z u (inr t) =
    let a = t.second.first in
    let b = a.second in
    let c = b.second in
    let d = c.second in
    let o = t.second.back in
    inl (unpass t t.first.token.place (unsign t.first) (record {
      value = z.uses;
      front = a.front;
      back = a.back ++ o;
      parts = t.second.parts ∙ ap (λ (w : List Tok). w ++ o) a.parts ∙ append_assoc a.front a.back o;
      first = a.first;
      second = record {
        value = z.lines;
        front = b.front;
        back = b.back ++ o;
        parts = ap (λ (w : List Tok). w ++ o) b.parts ∙ append_assoc b.front b.back o;
        first = b.first;
        second = record {
          value = z.defines;
          front = c.front;
          back = c.back ++ o;
          parts = ap (λ (w : List Tok). w ++ o) c.parts ∙ append_assoc c.front c.back o;
          first = c.first;
          second = record {
            value = z.init;
            front = d.front;
            back = d.back ++ o;
            parts = ap (λ (w : List Tok). w ++ o) d.parts ∙ append_assoc d.front d.back o;
            first = d.first;
            second = record {
              value = listed_parts z.parts;
              front = d.back;
              back = o;
              parts = refl;
              first = parts_from false z.parts d.back d.second;
              second = map_of t.second.second.token.place (ap (λ (y : PartTrees). kept y) (sym (parts_back z.parts))) (unsign t.second.second);
            };
          };
        };
      };
    }))
  where
    kept : PartTrees → InsideTree
    kept y = record { uses = z.uses; lines = z.lines; defines = z.defines; init = z.init; parts = y }

made_inside : (n n' : ℕ) → n ≤ n' → Made (inside_of n) (inside_of n') (λ i u. SpellsInside i u) (64 ∷ []) (64 ∷ []) true (n - 1)
unfolding inside_of
made_inside n n' h = become (alt (64 ∷ []) (made_inside_lines n n' (n - 1) h (omega arith) (made_part_at false n n' h (all_stmts false n n' h))) (give nothing_inside (n - 1)) refl)
    (λ z u s. elim s [ inl t ↦ inside_to z u t | inr t ↦ inl (t.same, t.empty) ])
    inside_from refl

made_params : (plain : Bool) (n n' m : ℕ) → n ≤ n' → m ≤ n → Made (params_of plain n) (params_of plain n') (λ ps u. InParens (Commas (SpellsModuleParam plain) ps) u) (38 ∷ []) [] false m
made_params plain n n' m h k = become (
    seq (made_mark 38 m refl) (λ k0.
    seq (made_commas n n' h k (made_module_param plain n n' m h k) refl refl) (λ ps.
    map_to (λ k2. ps) (made_mark 39 m refl)) refl) refl)
    (λ z u s. subst (λ y. InParens (Commas (SpellsModuleParam plain) y) u) (sym s.second.second.is) (pass s (sign s.first) (pass s.second s.second.first (sign s.second.second.spelled))))
    (λ z u s. (unpass s s.first.token.place (unsign s.first) (unpass s.second z s.second.first (map_of s.second.second.token.place refl (unsign s.second.second))))) refl

abbrev type_with : Place → Name → List Member → ItemTree
type_with p w ms = type_item (record { place = p; name = w; members = ms })

abbrev Types : ItemTree → List Tok → Type 0
Types = SeqOf (λ q. Mark kind.KwType q) (λ p. SeqOf (λ w. Word w) (λ w. SeqOf (λ q. Mark kind.Nl q) (λ k2. MapOf (λ ms. type_with p w ms) (λ ms u. Indented (ms ≡ []) (Each SpellsMember ms) u))))

made_type : (n n' : ℕ) → n ≤ n' → Made (type_of n) (type_of n') Types (5 ∷ []) (64 ∷ []) false (n - 1)
unfolding type_of
made_type n n' h = become (
    seq (made_mark 5 (n - 1) refl) (λ p.
    seq (made_word ((n - 1))) (λ w.
    seq (made_mark 63 ((n - 1)) refl) (λ k2.
    map_to (λ ms. type_with p w ms) (made_members_inside n n' ((n - 1)) h (omega arith))) refl) refl) refl) (λ z u s. s) (λ z u s. s) refl

abbrev Pures : ItemTree → List Tok → Type 0
Pures = SeqOf (λ q. Mark kind.KwModule q) (λ p. SeqOf (λ w. Word w) (λ w. SeqOf (λ q. Mark kind.SymColon q) (λ k2. SeqOf (λ w. Word w) (λ t. SeqOf (λ q. Mark kind.Nl q) (λ k4. MapOf (λ i. pure_item p w t i) (λ i u. SpellsInside i u))))))

made_pure : (n n' : ℕ) → n ≤ n' → Made (pure_of n) (pure_of n') Pures (8 ∷ []) (64 ∷ []) false (n - 1)
unfolding pure_of
made_pure n n' h = become (
    seq (made_mark 8 (n - 1) refl) (λ p.
    seq (made_word ((n - 1))) (λ w.
    seq (made_mark 45 ((n - 1)) refl) (λ k2.
    seq (made_word ((n - 1))) (λ t.
    seq (made_mark 63 ((n - 1)) refl) (λ k4.
    map_to (λ i. pure_item p w t i) (made_inside n n' h)) refl) refl) refl) refl) refl) (λ z u s. s) (λ z u s. s) refl

abbrev Resources : ItemTree → List Tok → Type 0
Resources = SeqOf (λ q. Mark kind.KwResource q) (λ p. SeqOf (λ q. Mark kind.KwModule q) (λ k1. SeqOf (λ w. Word w) (λ w. SeqOf (λ ps u. InParens (Commas (SpellsModuleParam false) ps) u) (λ ps. SeqOf (λ q. Mark kind.SymColon q) (λ k4. SeqOf (λ w. Word w) (λ t. SeqOf (λ q. Mark kind.Nl q) (λ k6. MapOf (λ i. resource_item p w ps t i) (λ i u. SpellsInside i u))))))))

made_resource : (n n' : ℕ) → n ≤ n' → Made (with_params 9 false n) (with_params 9 false n') Resources (9 ∷ []) (64 ∷ []) false (n - 1)
unfolding with_params
made_resource n n' h = become (
    seq (made_mark 9 (n - 1) refl) (λ p.
    seq (made_mark 8 ((n - 1)) refl) (λ k1.
    seq (made_word ((n - 1))) (λ w.
    seq (made_params false n n' ((n - 1)) h (omega arith)) (λ ps.
    seq (made_mark 45 ((n - 1)) refl) (λ k4.
    seq (made_word ((n - 1))) (λ t.
    seq (made_mark 63 ((n - 1)) refl) (λ k6.
    map_to (λ i. resource_item p w ps t i) (made_inside n n' h)) refl) refl) refl) refl) refl) refl) refl) (λ z u s. s) (λ z u s. s) refl

abbrev Plains : ItemTree → List Tok → Type 0
Plains = SeqOf (λ q. Mark kind.KwPlain q) (λ p. SeqOf (λ q. Mark kind.KwModule q) (λ k1. SeqOf (λ w. Word w) (λ w. SeqOf (λ ps u. InParens (Commas (SpellsModuleParam true) ps) u) (λ ps. SeqOf (λ q. Mark kind.SymColon q) (λ k4. SeqOf (λ w. Word w) (λ t. SeqOf (λ q. Mark kind.Nl q) (λ k6. MapOf (λ i. plain_item p w ps t i) (λ i u. Indented (i ≡ no_parts) (SpellsParts true i) u))))))))

made_plain : (n n' : ℕ) → n ≤ n' → Made (with_params 10 true n) (with_params 10 true n') Plains (10 ∷ []) (64 ∷ []) false (n - 1)
unfolding with_params
made_plain n n' h = become (
    seq (made_mark 10 (n - 1) refl) (λ p.
    seq (made_mark 8 ((n - 1)) refl) (λ k1.
    seq (made_word ((n - 1))) (λ w.
    seq (made_params true n n' ((n - 1)) h (omega arith)) (λ ps.
    seq (made_mark 45 ((n - 1)) refl) (λ k4.
    seq (made_word ((n - 1))) (λ t.
    seq (made_mark 63 ((n - 1)) refl) (λ k6.
    map_to (λ i. plain_item p w ps t i) (made_parts_inside true (part_at true n) (part_at true n') n n' ((n - 1)) h (omega arith) (made_part_at true n n' h (all_stmts true n n' h)))) refl) refl) refl) refl) refl) refl) refl) (λ z u s. s) (λ z u s. s) refl

abbrev Programs : ItemTree → List Tok → Type 0
Programs = SeqOf (λ q. Mark kind.KwProgram q) (λ p. SeqOf (λ q. Mark kind.Nl q) (λ k1. SeqOf (λ q. Mark kind.In q) (λ k2. SeqOf (λ z u. Each SpellsGrant z u) (λ gs. SeqOf (λ z u. Each SpellsUse z u) (λ us. SeqOf (λ z u. Each SpellsLine z u) (λ ls. SeqOf (λ q. Mark kind.KwRun q) (λ r. SeqOf (λ q. Mark kind.SymColon q) (λ k7. SeqOf (λ s u. SpellsSet s u) (λ s. SeqOf (λ b u. SpellsTail false b u) (λ b. MapOf (λ k10. program_item p gs us ls r s b) (λ q. Mark kind.Out q)))))))))))

made_program : (n n' : ℕ) → n ≤ n' → Made (program_of n) (program_of n') Programs (11 ∷ []) [] false (n - 1)
unfolding program_of
made_program n n' h = become (
    seq (made_mark 11 (n - 1) refl) (λ p.
    seq (made_mark 63 ((n - 1)) refl) (λ k1.
    seq (made_mark 64 ((n - 1)) refl) (λ k2.
    seq (made_each n n' h (omega arith) (made_grant ((n - 1))) refl) (λ gs.
    seq (made_each n n' h (omega arith) (made_use ((n - 1))) refl) (λ us.
    seq (made_each n n' h (omega arith) (made_line n n' ((n - 1)) h (omega arith)) refl) (λ ls.
    seq (made_mark 20 ((n - 1)) refl) (λ r.
    seq (made_mark 45 ((n - 1)) refl) (λ k7.
    seq (made_set n n' ((n - 1)) h (omega arith)) (λ s.
    seq (made_tail_at false n n' (all_stmts false n n' h)) (λ b.
    map_to (λ k10. program_item p gs us ls r s b) (made_mark 65 ((n - 1)) refl)) refl) refl) refl) refl) refl) refl) refl) refl) refl) refl) (λ z u s. s) (λ z u s. s) refl

abbrev Items : ItemTree → List Tok → Type 0
Items = Or Types (Or Pures (Or Resources (Or Plains Programs)))

item_to : (z : ItemTree) (u : List Tok) → Items z u → SpellsItem z u
item_to z u (inl s) = subst (λ y. SpellsItem y u) (sym s.second.second.second.is) (pass s s.first (pass s.second s.second.first (pass s.second.second (sign s.second.second.first) s.second.second.second.spelled)))
item_to z u (inr (inl s)) = subst (λ y. SpellsItem y u) (sym s.second.second.second.second.second.is) (pass s s.first (pass s.second s.second.first (pass s.second.second (sign s.second.second.first) (pass s.second.second.second s.second.second.second.first (pass s.second.second.second.second (sign s.second.second.second.second.first) s.second.second.second.second.second.spelled)))))
item_to z u (inr (inr (inl s))) = subst (λ y. SpellsItem y u) (sym s.second.second.second.second.second.second.second.is) (pass s s.first (pass s.second (sign s.second.first) (pass s.second.second s.second.second.first (pass s.second.second.second s.second.second.second.first (pass s.second.second.second.second (sign s.second.second.second.second.first) (pass s.second.second.second.second.second s.second.second.second.second.second.first (pass s.second.second.second.second.second.second (sign s.second.second.second.second.second.second.first) s.second.second.second.second.second.second.second.spelled)))))))
item_to z u (inr (inr (inr (inl s)))) = subst (λ y. SpellsItem y u) (sym s.second.second.second.second.second.second.second.is) (pass s s.first (pass s.second (sign s.second.first) (pass s.second.second s.second.second.first (pass s.second.second.second s.second.second.second.first (pass s.second.second.second.second (sign s.second.second.second.second.first) (pass s.second.second.second.second.second s.second.second.second.second.second.first (pass s.second.second.second.second.second.second (sign s.second.second.second.second.second.second.first) s.second.second.second.second.second.second.second.spelled)))))))
item_to z u (inr (inr (inr (inr s)))) = subst (λ y. SpellsItem y u) (sym s.second.second.second.second.second.second.second.second.second.second.is) (pass s s.first (pass s.second (sign s.second.first) (pass s.second.second (sign s.second.second.first) (pass s.second.second.second s.second.second.second.first (pass s.second.second.second.second s.second.second.second.second.first (pass s.second.second.second.second.second s.second.second.second.second.second.first (pass s.second.second.second.second.second.second s.second.second.second.second.second.second.first (pass s.second.second.second.second.second.second.second (sign s.second.second.second.second.second.second.second.first) (pass s.second.second.second.second.second.second.second.second s.second.second.second.second.second.second.second.second.first (pass s.second.second.second.second.second.second.second.second.second s.second.second.second.second.second.second.second.second.second.first (sign s.second.second.second.second.second.second.second.second.second.second.spelled)))))))))))

item_from : (z : ItemTree) (u : List Tok) → SpellsItem z u → Items z u
item_from (type_item d) u s = inl (unpass s d.place s.first (unpass s.second d.name s.second.first (unpass s.second.second s.second.second.first.token.place (unsign s.second.second.first) (map_of d.members refl s.second.second.second))))
item_from (pure_item p w t i) u s = inr (inl (unpass s p s.first (unpass s.second w s.second.first (unpass s.second.second s.second.second.first.token.place (unsign s.second.second.first) (unpass s.second.second.second t s.second.second.second.first (unpass s.second.second.second.second s.second.second.second.second.first.token.place (unsign s.second.second.second.second.first) (map_of i refl s.second.second.second.second.second)))))))
item_from (resource_item p w ps t i) u s = inr (inr (inl (unpass s p s.first (unpass s.second s.second.first.token.place (unsign s.second.first) (unpass s.second.second w s.second.second.first (unpass s.second.second.second ps s.second.second.second.first (unpass s.second.second.second.second s.second.second.second.second.first.token.place (unsign s.second.second.second.second.first) (unpass s.second.second.second.second.second t s.second.second.second.second.second.first (unpass s.second.second.second.second.second.second s.second.second.second.second.second.second.first.token.place (unsign s.second.second.second.second.second.second.first) (map_of i refl s.second.second.second.second.second.second.second))))))))))
item_from (plain_item p w ps t i) u s = inr (inr (inr (inl (unpass s p s.first (unpass s.second s.second.first.token.place (unsign s.second.first) (unpass s.second.second w s.second.second.first (unpass s.second.second.second ps s.second.second.second.first (unpass s.second.second.second.second s.second.second.second.second.first.token.place (unsign s.second.second.second.second.first) (unpass s.second.second.second.second.second t s.second.second.second.second.second.first (unpass s.second.second.second.second.second.second s.second.second.second.second.second.second.first.token.place (unsign s.second.second.second.second.second.second.first) (map_of i refl s.second.second.second.second.second.second.second)))))))))))
item_from (program_item p gs us ls r x b) u s = inr (inr (inr (inr (unpass s p s.first (unpass s.second s.second.first.token.place (unsign s.second.first) (unpass s.second.second s.second.second.first.token.place (unsign s.second.second.first) (unpass s.second.second.second gs s.second.second.second.first (unpass s.second.second.second.second us s.second.second.second.second.first (unpass s.second.second.second.second.second ls s.second.second.second.second.second.first (unpass s.second.second.second.second.second.second r s.second.second.second.second.second.second.first (unpass s.second.second.second.second.second.second.second s.second.second.second.second.second.second.second.first.token.place (unsign s.second.second.second.second.second.second.second.first) (unpass s.second.second.second.second.second.second.second.second x s.second.second.second.second.second.second.second.second.first (unpass s.second.second.second.second.second.second.second.second.second b s.second.second.second.second.second.second.second.second.second.first (map_of s.second.second.second.second.second.second.second.second.second.second.token.place refl (unsign s.second.second.second.second.second.second.second.second.second.second)))))))))))))))

pub made_item : (n n' : ℕ) → n ≤ n' → Made (item n) (item n') (λ i u. SpellsItem i u) item_first (64 ∷ []) false (n - 1)
unfolding item
made_item n n' h = become
    (alt (5 ∷ []) (made_type n n' h)
    (alt (8 ∷ []) (made_pure n n' h)
    (alt (9 ∷ []) (made_resource n n' h)
    (alt (10 ∷ []) (made_plain n n' h) (made_program n n' h) refl) refl) refl) refl)
    item_to item_from refl

-- the items of a file, before its end
pub made_items : (n n' : ℕ) → n ≤ n' → Made (items n) (items n') (λ is u. Each SpellsItem is u) item_first (item_first ++ 64 ∷ []) true (n - 1)
unfolding items
made_items n n' h = made_each n n' h (omega arith) (made_item n n' h) refl
