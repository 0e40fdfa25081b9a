-- Tokens that spell a tree tell of its bodies and literals: the names of the methods are names among the tokens, and no more literals than tokens stand there.
use Rattle.std.proofs.Common.{◌≡◌, ℕ, ◌+◌, ◌≤◌, Bool, List, [], ◌∷◌, ◌++◌, length, Some, None, inl, inr, refl, sym, ap, ◌∙◌, subst, arith}
use Rattle.std.proofs.lemmas.List.{length-append}
use Rattle.wy_text.specs.declared.fault.Place.{Place}
use Rattle.wy_text.specs.declared.token.TokenKind.{TokenKind}
use Rattle.wy_syntax.specs.declared.types.Signature.{Signature}
use Rattle.wy_syntax.specs.Tokens.{Tok}
use Rattle.wy_syntax.specs.Trees as t
use Rattle.wy_syntax.specs.Languages.{Lang, Mark, Then, Indented, Lines}
use Rattle.wy_syntax.specs.TypeGrammar.{SpellsSignature}
use Rattle.wy_syntax.specs.StmtGrammar.{SpellsRhs, SpellsStmt, SpellsBlock, SpellsPart, SpellsParts, SpellsTail}
use Rattle.wy_text.specs.Members.{In}
use Rattle.wy_text.proofs.Lists.{In-cases}
use Rattle.wy_types.specs.declared.resolved.Literal.{Literal}
use Rattle.wy_types.specs.Program.{Body}
use Rattle.wy_bodies.specs.Sight.{Sight, inside, with_params}
use Rattle.wy_bodies.specs.Bodies.{Within, Count, one_val, one_literal, one_body, stmts_after, stmt_after, part_after, stmt_sight, method_body, literal_of, rhs_literals, stmt_literals, stmts_literals, part_literals, parts_literals, tail_literals, rhs_bodies, stmt_bodies, stmts_bodies, part_bodies, parts_bodies, tail_bodies}
use Rattle.wy_syntax.specs.OwnWords.{IsWord, AreWords}
use Rattle.wy_syntax.proofs.TokensSpelled.{front_ok, back_ok}
use Rattle.wy_well_formed.proofs.ItemWords.{NameIsWord, name_word}

abbrev pub AreMethods : List Body → Type 0
AreMethods bs = (b : Body) → In b bs → IsWord b.signature.name

methods_append : (bs cs : List Body) → AreMethods bs → AreMethods cs → AreMethods (bs ++ cs)
methods_append bs cs h g b i = elim (In-cases b bs cs i) [ inl j ↦ h b j | inr j ↦ g b j ]

method_before : (b : Body) (bs : List Body) → IsWord b.signature.name → AreMethods bs → AreMethods (b ∷ bs)
method_before b bs h g c (inl e) = subst (λ (d : Body). IsWord d.signature.name) e h
method_before b bs h g c (inr i) = g c i

-- what tokens tell of literals and bodies
pub record Tells (ls : List Literal) (bs : List Body) (u : List Tok) : Type 0 where
  pub few : length ls ≤ length u
  pub methods : AreWords u → AreMethods bs

pub tells_none : {u : List Tok} → Tells [] [] u
tells_none = record { few = omega arith; methods = λ h b i. absurd i }

length_parts : {P Q : Lang} {u : List Tok} → (x : Then P Q u) → length u ≡ length x.front + length x.back
length_parts x = ap length x.parts ∙ length-append x.front x.back

pub of_first : {P Q : Lang} {ls : List Literal} {bs : List Body} {u : List Tok} → (x : Then P Q u) → Tells ls bs x.front → Tells ls bs u
of_first x h = record { few = (let a = h.few in let e = length_parts x in omega (arith, a, e)); methods = λ g. h.methods (front_ok NameIsWord x g) }

pub of_second : {P Q : Lang} {ls : List Literal} {bs : List Body} {u : List Tok} → (x : Then P Q u) → Tells ls bs x.back → Tells ls bs u
of_second x h = record { few = (let a = h.few in let e = length_parts x in omega (arith, a, e)); methods = λ g. h.methods (back_ok NameIsWord x g) }

of_both : {P Q : Lang} {ls ms : List Literal} {bs cs : List Body} {u : List Tok} → (x : Then P Q u) → Tells ls bs x.front → Tells ms cs x.back → Tells (ls ++ ms) (bs ++ cs) u
of_both {ls = ls} {ms = ms} {bs = bs} {cs = cs} x h k = record {
  few = (let a = h.few in let b = k.few in let e = length_parts x in let l = length-append ls ms in omega (arith, a, b, e, l));
  methods = λ g. methods_append bs cs (h.methods (front_ok NameIsWord x g)) (k.methods (back_ok NameIsWord x g));
}

-- with nothing behind
of_last : {ls : List Literal} {bs : List Body} {u : List Tok} → Tells ls bs u → Tells (ls ++ []) (bs ++ []) u
of_last {ls = ls} {bs = bs} h = record {
  few = (let a = h.few in let none : List Literal = [] in let l = length-append ls none in omega (arith, a, l));
  methods = λ g. methods_append bs [] (h.methods g) (λ b i. absurd i);
}

-- a literal more where a token stands before
pub of_literal : {k : TokenKind} {p : Place} {Q : Lang} {ls : List Literal} {bs : List Body} {u : List Tok} → (l : Literal) → (x : Then (Mark k p) Q u) → Tells ls bs x.back → Tells (l ∷ ls) bs u
of_literal l x h = record {
  few = (let a = h.few in let e = length_parts x in let one = ap length x.first.only in omega (arith, a, e, one));
  methods = λ g. h.methods (back_ok NameIsWord x g);
}

-- a method, whose name stands in its signature
of_method : (plain : Bool) {Q : Lang} {ls : List Literal} {bs : List Body} {u : List Tok} → (g : Signature) (b : Body) → b.signature.name ≡ g.name.text →
    (x : Then (SpellsSignature plain g) Q u) → Tells ls bs x.back → Tells ls (b ∷ bs) u
of_method plain {bs = bs} g b e x h = record {
  few = (of_second x h).few;
  methods = λ k. (let named = x.first.second.first in
      let words = front_ok NameIsWord x.first.second (back_ok NameIsWord x.first (front_ok NameIsWord x k)) in
      method_before b bs (subst IsWord (sym e) (name_word g.name x.first.second.front named words)) (h.methods (back_ok NameIsWord x k)));
}

pub of_lines : {P : Lang} {ls : List Literal} {bs : List Body} {u : List Tok} → (x : Lines P u) → Tells ls bs x.second.front → Tells ls bs u
of_lines x h = of_second x (of_first x.second h)

module _ (w : Within) where
  abbrev pub TellsOf : (si within : Sight) (owner : ℕ) (n : Count) → t.PartTrees → Lang
  TellsOf si within owner n ps u = Tells (parts_literals w si within n ps) (parts_bodies w si within owner n ps) u

  mutual
    rhs_tells : (si : Sight) (n : Count) (plain : Bool) (k : ℕ) (r : t.RhsTree) (u : List Tok) → SpellsRhs plain k r u → Tells (rhs_literals w si n r) (rhs_bodies w si n r) u
    rhs_tells si n plain k (t.literal p ps) u x =
        of_literal (literal_of w si ps) x (of_second x.second (indented_tells si (inside si ps) n.literals (one_literal n) plain ps x.second.back x.second.second))
    rhs_tells si n plain k (t.branch p c a b) u (e, x) =
        let y = x.second.second.second in
        let z = y.second.second in
        of_second x (of_second x.second (of_second x.second.second
        (of_both y (of_lines y.first (block_tells si n plain a y.first.second.front y.first.second.first))
        (of_second y.second (of_second z (of_lines z.second (block_tells si (stmts_after n a) plain b z.second.second.front z.second.second.first)))))))
    rhs_tells si n plain k (t.value e) u x = tells_none

    stmt_tells : (si : Sight) (n : Count) (plain : Bool) (s : t.StmtTree) (u : List Tok) → SpellsStmt plain s u → Tells (stmt_literals w si n s) (stmt_bodies w si n s) u
    stmt_tells si n plain (t.val x None r) u h =
        let y = h.second.second in
        of_second h (of_second h.second (of_second y (rhs_tells si (one_val n) plain 1 r y.back y.second)))
    stmt_tells si n plain (t.val x (Some v) r) u h =
        let y = h.second.second.second.second in
        of_second h (of_second h.second (of_second h.second.second (of_second h.second.second.second (of_second y (rhs_tells si (one_val n) plain 0 r y.back y.second)))))
    stmt_tells si n plain (t.assign x r) u h = of_second h (of_second h.second (rhs_tells si n plain 0 r h.second.back h.second.second))
    stmt_tells si n plain (t.run r) u h = rhs_tells si n plain 0 r u h

    block_tells : (si : Sight) (n : Count) (plain : Bool) (ss : t.StmtTrees) (u : List Tok) → SpellsBlock plain ss u → Tells (stmts_literals w si n ss) (stmts_bodies w si n ss) u
    block_tells si n plain t.no_stmts u x = absurd x
    block_tells si n plain (t.more_stmts s t.no_stmts) u (e, x) = of_last (stmt_tells si n plain s u x)
    block_tells si n plain (t.more_stmts s (t.more_stmts v ss)) u x =
        of_both x (stmt_tells si n plain s x.front x.first) (block_tells (stmt_sight w si n s) (stmt_after n s) plain (t.more_stmts v ss) x.back x.second)

    part_tells : (si within : Sight) (owner : ℕ) (n : Count) (plain : Bool) (p : t.PartTree) (u : List Tok) → SpellsPart plain p u →
        Tells (part_literals w si within n p) (part_bodies w si within owner n p) u
    part_tells si within owner n plain (t.field k x v r) u h =
        let y = h.second.second.second.second in
        of_second h (of_second h.second (of_second h.second.second (of_second h.second.second.second (of_second y (rhs_tells si n plain 0 r y.back y.second)))))
    part_tells si within owner n plain (t.method g b) u h =
        of_method plain g (method_body w within n owner g b) refl h (tail_tells (with_params within n.bodies g.params) (one_body n) plain b h.back h.second)

    pub parts_tell : (si within : Sight) (owner : ℕ) (n : Count) (plain : Bool) (ps : t.PartTrees) (u : List Tok) → SpellsParts plain ps u → TellsOf si within owner n ps u
    parts_tell si within owner n plain t.no_parts u x = tells_none
    parts_tell si within owner n plain (t.more_parts p ps) u x =
        of_both x (part_tells si within owner n plain p x.front x.first) (parts_tell si within owner (part_after n p) plain ps x.back x.second)

    pub indented_tells : (si within : Sight) (owner : ℕ) (n : Count) (plain : Bool) (ps : t.PartTrees) (u : List Tok) → Indented (ps ≡ t.no_parts) (SpellsParts plain ps) u →
        TellsOf si within owner n ps u
    indented_tells si within owner n plain t.no_parts u x = tells_none
    indented_tells si within owner n plain (t.more_parts p ps) u (inl x) = let e = x.0 in absurd cc
    indented_tells si within owner n plain (t.more_parts p ps) u (inr x) =
        let y = x.second.first in
        of_lines x (of_both y (part_tells si within owner n plain p y.front y.first) (parts_tell si within owner (part_after n p) plain ps y.back y.second))

    pub tail_tells : (si : Sight) (n : Count) (plain : Bool) (b : t.TailTree) (u : List Tok) → SpellsTail plain b u → Tells (tail_literals w si n b) (tail_bodies w si n b) u
    tail_tells si n plain (t.short r) u x = of_second x (rhs_tells si n plain 0 r x.back x.second)
    tail_tells si n plain (t.long ss) u x = of_second x (of_lines x.second (block_tells si n plain ss x.second.second.front x.second.second.first))
