-- A file has one tree, or one reason for having none; and so do files in a row.
use Rattle.std.proofs.Common.{◌≡◌, inl, inr, ◌<◌, ℕ, suc, List, [], ◌∷◌, refl, sym, ◌∙◌, ap, subst, arith, length}
use Rattle.wy_text.specs.declared.fault.Place.{Place}
use Rattle.wy_text.specs.declared.limit.LimitName.TheVariants as limit
use Rattle.wy_text.specs.declared.token.Token.{Token}
use Rattle.wy_layout.specs.Counts.{most_file_bytes}
use Rattle.wy_layout.specs.Layout.{IsFirst}
use Rattle.wy_layout.specs.Lines.{place_at}
use Rattle.wy_layout.specs.declared.refusal.Fault.{Fault}
use Rattle.wy_layout.specs.declared.refusal.Fault.TheVariants as fault
use Rattle.wy_layout.proofs.Filewise.{lexes_none, one_fault, one_list}
use Rattle.wy_syntax.specs.Grammar.{Spells}
use Rattle.wy_syntax.specs.Tokens.{toks}
use Rattle.wy_syntax.specs.Trees.{ItemTree}
use Rattle.wy_parser.specs.Refusals.{IsFirstBad}
use Rattle.wy_parser.proofs.FileReader.{one_tree}
use Rattle.wy_parser.proofs.FirstBad.{no_tree, one_bad}
use Rattle.wy_canonical.specs.HasTree.{HasTree}
use Rattle.wy_engine.specs.FileTrees.{FirstNoTree, HasNoTree, HaveTrees, IsUnexpected}
use Rattle.wy_engine.specs.declared.status.Status.{Status}
use Rattle.wy_engine.specs.declared.status.Status.TheVariants as status
use Rattle.wy_engine.specs.declared.status.SyntaxKind.TheVariants as syntax

-- why a file has no tree: what is wrong first in its text, its size, or a token that fits nothing
pub data Why : Type 0 where
  wrong : Fault → Place → Why
  large : Why
  unexpected : Place → Why

abbrev pub IsWhy : ℕ → List ℕ → Why → Type 0
IsWhy file bytes (wrong f place) = IsFirst file bytes f place
IsWhy file bytes large = most_file_bytes < length bytes
IsWhy file bytes (unexpected place) = IsUnexpected file bytes place

abbrev pub status_why : Why → Status
status_why (wrong fault.NameBytes place) = status.Limit limit.NameBytes
status_why (wrong fault.Tokens place) = status.Limit limit.Tokens
status_why (wrong fault.Indents place) = status.Limit limit.Indents
status_why (wrong fault.Marks place) = status.Limit limit.Marks
status_why (wrong fault.NotUtf8 place) = status.Syntax place syntax.NotUtf8
status_why (wrong fault.TabIndent place) = status.Syntax place syntax.TabIndent
status_why (wrong fault.BadDedent place) = status.Syntax place syntax.BadDedent
status_why (wrong fault.BadCharacter place) = status.Syntax place syntax.BadCharacter
status_why (wrong fault.OpenText place) = status.Syntax place syntax.OpenText
status_why (wrong fault.BadEscape place) = status.Syntax place syntax.BadEscape
status_why (wrong fault.NumberTooLarge place) = status.Syntax place syntax.NumberTooLarge
status_why large = status.Limit limit.FileBytes
status_why (unexpected place) = status.Syntax place syntax.Unexpected

pub record Reason (file : ℕ) (bytes : List ℕ) (end : Status) : Type 0 where
  pub why : Why
  pub is : IsWhy file bytes why
  pub named : end ≡ status_why why

pub reason_of : (file : ℕ) (bytes : List ℕ) (end : Status) → HasNoTree file bytes end → Reason file bytes end
reason_of file bytes (status.Syntax place syntax.NotUtf8) none = record { why = wrong fault.NotUtf8 place; is = none; named = refl }
reason_of file bytes (status.Syntax place syntax.TabIndent) none = record { why = wrong fault.TabIndent place; is = none; named = refl }
reason_of file bytes (status.Syntax place syntax.BadDedent) none = record { why = wrong fault.BadDedent place; is = none; named = refl }
reason_of file bytes (status.Syntax place syntax.BadCharacter) none = record { why = wrong fault.BadCharacter place; is = none; named = refl }
reason_of file bytes (status.Syntax place syntax.OpenText) none = record { why = wrong fault.OpenText place; is = none; named = refl }
reason_of file bytes (status.Syntax place syntax.BadEscape) none = record { why = wrong fault.BadEscape place; is = none; named = refl }
reason_of file bytes (status.Syntax place syntax.NumberTooLarge) none = record { why = wrong fault.NumberTooLarge place; is = none; named = refl }
reason_of file bytes (status.Syntax place syntax.Unexpected) none = record { why = unexpected place; is = none; named = refl }
reason_of file bytes (status.Limit limit.FileBytes) none = record { why = large; is = none; named = refl }
reason_of file bytes (status.Limit limit.NameBytes) none = record { why = wrong fault.NameBytes none.0; is = none.1; named = refl }
reason_of file bytes (status.Limit limit.Tokens) none = record { why = wrong fault.Tokens none.0; is = none.1; named = refl }
reason_of file bytes (status.Limit limit.Indents) none = record { why = wrong fault.Indents none.0; is = none.1; named = refl }
reason_of file bytes (status.Limit limit.Marks) none = record { why = wrong fault.Marks none.0; is = none.1; named = refl }
reason_of file bytes (status.Limit limit.Files) none = absurd none
reason_of file bytes (status.Limit limit.Types) none = absurd none
reason_of file bytes (status.Limit limit.Modules) none = absurd none
reason_of file bytes (status.Limit limit.Grants) none = absurd none
reason_of file bytes (status.Limit limit.Methods) none = absurd none
reason_of file bytes (status.Limit limit.Fields) none = absurd none
reason_of file bytes (status.Limit limit.Parameters) none = absurd none
reason_of file bytes (status.Limit limit.Atoms) none = absurd none
reason_of file bytes (status.Limit limit.ReachedTypes) none = absurd none
reason_of file bytes (status.Limit limit.Instances) none = absurd none
reason_of file bytes (status.Limit limit.Bodies) none = absurd none
reason_of file bytes (status.Limit limit.Slots) none = absurd none
reason_of file bytes (status.Limit limit.ImageBytes) none = absurd none
reason_of file bytes (status.Limit limit.CertificateBytes) none = absurd none
reason_of file bytes (status.Limit limit.PolicyRows) none = absurd none
reason_of file bytes status.Ended none = absurd none
reason_of file bytes status.Usage none = absurd none
reason_of file bytes (status.Unread number) none = absurd none
reason_of file bytes (status.Refused why) none = absurd none
reason_of file bytes (status.DeviceFailed grant op) none = absurd none
reason_of file bytes status.Unwritten none = absurd none
reason_of file bytes status.Memory none = absurd none
reason_of file bytes (status.Trap kind mark) none = absurd none
reason_of file bytes status.TooDeep none = absurd none
reason_of file bytes status.Spent none = absurd none
reason_of file bytes (status.BadCert at) none = absurd none
reason_of file bytes (status.Unproved scope test index) none = absurd none
reason_of file bytes (status.Denied row instance atom) none = absurd none
reason_of file bytes (status.BadPolicy row) none = absurd none

none_why : (file : ℕ) (bytes : List ℕ) (why : Why) → IsWhy file bytes why → HasNoTree file bytes (status_why why)
none_why file bytes (wrong fault.NameBytes place) is = (place, is)
none_why file bytes (wrong fault.Tokens place) is = (place, is)
none_why file bytes (wrong fault.Indents place) is = (place, is)
none_why file bytes (wrong fault.Marks place) is = (place, is)
none_why file bytes (wrong fault.NotUtf8 place) is = is
none_why file bytes (wrong fault.TabIndent place) is = is
none_why file bytes (wrong fault.BadDedent place) is = is
none_why file bytes (wrong fault.BadCharacter place) is = is
none_why file bytes (wrong fault.OpenText place) is = is
none_why file bytes (wrong fault.BadEscape place) is = is
none_why file bytes (wrong fault.NumberTooLarge place) is = is
none_why file bytes large is = is
none_why file bytes (unexpected place) is = is

pub none_of : (file : ℕ) (bytes : List ℕ) (end : Status) (why : Why) → IsWhy file bytes why → end ≡ status_why why → HasNoTree file bytes end
none_of file bytes end why is named = subst (λ (s : Status). HasNoTree file bytes s) (sym named) (none_why file bytes why is)

one_unexpected : (file : ℕ) (bytes : List ℕ) (p q : Place) → IsUnexpected file bytes p → IsUnexpected file bytes q → p ≡ q
one_unexpected file bytes p q a b =
    let same : b.tokens ≡ a.tokens = one_list file bytes b.tokens a.tokens b.lexed a.lexed in
    ap (λ x. x.place) (one_bad (toks a.tokens) (record { kind = a.kind; place = p }) (record { kind = b.kind; place = q }) a.first
    (subst (λ (ts : List Token). IsFirstBad (toks ts) (record { kind = b.kind; place = q })) same b.first))

one_why : (file : ℕ) (bytes : List ℕ) (v w : Why) → IsWhy file bytes v → IsWhy file bytes w → v ≡ w
one_why file bytes (wrong f p) (wrong g q) a b =
    let same = one_fault file bytes f g a.offset b.offset a.least b.least in
    let place : p ≡ q = a.is_place ∙ ap (λ (o : ℕ). place_at file bytes o) same.1 ∙ sym b.is_place in
    ap (λ (x : Fault). wrong x p) same.0 ∙ ap (λ (x : Place). wrong g x) place
one_why file bytes (wrong f p) large a b = let h = a.short in absurd (omega arith)
one_why file bytes large (wrong g q) a b = let h = b.short in absurd (omega arith)
one_why file bytes (wrong f p) (unexpected q) a b = absurd (lexes_none file bytes b.tokens b.lexed f a.offset a.least.stands)
one_why file bytes (unexpected p) (wrong g q) a b = absurd (lexes_none file bytes a.tokens a.lexed g b.offset b.least.stands)
one_why file bytes large large a b = refl
one_why file bytes large (unexpected q) a b = let h = b.lexed.short in absurd (omega arith)
one_why file bytes (unexpected p) large a b = let h = a.lexed.short in absurd (omega arith)
one_why file bytes (unexpected p) (unexpected q) a b = ap (λ (x : Place). unexpected x) (one_unexpected file bytes p q a b)

one_reason : (file : ℕ) (bytes : List ℕ) (end other : Status) → HasNoTree file bytes end → HasNoTree file bytes other → end ≡ other
one_reason file bytes end other a b =
    let v = reason_of file bytes end a in
    let w = reason_of file bytes other b in
    v.named ∙ ap status_why (one_why file bytes v.why w.why v.is w.is) ∙ sym w.named

no_why : (file : ℕ) (bytes : List ℕ) (tree : List ItemTree) (why : Why) → HasTree file bytes tree → IsWhy file bytes why → ⊥
no_why file bytes tree (wrong f p) has is = lexes_none file bytes has.tokens has.lexed f is.offset is.least.stands
no_why file bytes tree large has is = let h = has.lexed.short in omega arith
no_why file bytes tree (unexpected p) has is =
    let same : has.tokens ≡ is.tokens = one_list file bytes has.tokens is.tokens has.lexed is.lexed in
    no_tree (toks is.tokens) (record { kind = is.kind; place = p }) tree is.first (subst (λ (ts : List Token). Spells (toks ts) tree) same has.spelled)

tree_or_none : (file : ℕ) (bytes : List ℕ) (tree : List ItemTree) (end : Status) → HasTree file bytes tree → HasNoTree file bytes end → ⊥
tree_or_none file bytes tree end has none = let w = reason_of file bytes end none in no_why file bytes tree w.why has w.is

pub same_tree : (file : ℕ) (bytes : List ℕ) (t u : List ItemTree) → HasTree file bytes t → HasTree file bytes u → t ≡ u
same_tree file bytes t u a b =
    let same : b.tokens ≡ a.tokens = one_list file bytes b.tokens a.tokens b.lexed a.lexed in
    one_tree t u (toks a.tokens) a.spelled (subst (λ (ts : List Token). Spells (toks ts) u) same b.spelled)

pub same_trees : (file : ℕ) (texts : List (List ℕ)) (ts us : List (List ItemTree)) → HaveTrees file texts ts → HaveTrees file texts us → ts ≡ us
same_trees file [] [] [] a b = refl
same_trees file [] [] (u ∷ us) a b = absurd b
same_trees file [] (t ∷ ts) us a b = absurd a
same_trees file (x ∷ xs) [] us a b = absurd a
same_trees file (x ∷ xs) (t ∷ ts) [] a b = absurd b
same_trees file (x ∷ xs) (t ∷ ts) (u ∷ us) a b =
    ap (λ (v : List ItemTree). v ∷ ts) (same_tree file x t u a.0 b.0) ∙ ap (λ (vs : List (List ItemTree)). u ∷ vs) (same_trees (suc file) xs ts us a.1 b.1)

pub trees_or_none : (file : ℕ) (texts : List (List ℕ)) (ts : List (List ItemTree)) (end : Status) → HaveTrees file texts ts → FirstNoTree file texts end → ⊥
trees_or_none file [] ts end have none = none
trees_or_none file (x ∷ xs) [] end have none = have
trees_or_none file (x ∷ xs) (t ∷ ts) end have (inl none) = tree_or_none file x t end have.0 none
trees_or_none file (x ∷ xs) (t ∷ ts) end have (inr later) = trees_or_none (suc file) xs ts end have.1 later.2

pub one_first : (file : ℕ) (texts : List (List ℕ)) (end other : Status) → FirstNoTree file texts end → FirstNoTree file texts other → end ≡ other
one_first file [] end other a b = absurd a
one_first file (x ∷ xs) end other (inl a) (inl b) = one_reason file x end other a b
one_first file (x ∷ xs) end other (inl a) (inr b) = absurd (tree_or_none file x b.0 end b.1 a)
one_first file (x ∷ xs) end other (inr a) (inl b) = absurd (tree_or_none file x a.0 other a.1 b)
one_first file (x ∷ xs) end other (inr a) (inr b) = one_first (suc file) xs end other a.2 b.2
