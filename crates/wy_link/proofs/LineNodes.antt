-- The nodes of lines, by what judging each line came to; those of a scope's own names one after the other, and of all scopes.
use Rattle.std.proofs.Common.{◌≡◌, ℕ, ◌+◌, List, [], ◌∷◌, ◌++◌, inl, inr, refl, sym, ap, subst, map, Option, Some, None, true, false}
use Rattle.std.specs.Option.{is_some}
use Rattle.wy_text.specs.declared.fault.Fault.{Fault}
use Rattle.wy_text.specs.declared.fault.RuleName.TheVariants.{MUse, MInst, MImport, IImport}
use Rattle.wy_types.specs.declared.resolved.OwnName.{OwnName}
use Rattle.wy_types.specs.declared.resolved.Scope as sc
use Rattle.wy_types.specs.declared.resolved.ScopeKind.TheVariants.{Pure, Plain}
use Rattle.wy_types.specs.Program.{Program, Scope, scope_of}
use Rattle.wy_types.specs.Types.{is_plain}
use Rattle.wy_rules.specs.Acceptance.{IsOfKind, PlainHolds, reading_of}
use Rattle.wy_rules.specs.Typing.{ScopeHolds}
use Rattle.wy_rules.specs.Nodes.{Node, nothing, import_line, node, lines_nodes, line_nodes}
use Rattle.wy_rules.specs.Failing.{named_atom, Passes, AllPass, FirstFailing}
use Rattle.wy_rules.specs.Refusals.{plain_modules, turn_of, is_its_turn, scopes_of}
use Rattle.wy_rules.specs.Ends.{AllGoOn}
use Rattle.wy_rules.proofs.Passing.{scope_holds}
use Rattle.wy_judge.specs.Outcomes.{fault_at}
use Rattle.wy_judge.proofs.Programs.{each_goes_on}
use Rattle.wy_link.specs.declared.misfit.Misfit.{Misfit}
use Rattle.wy_premises.specs.Tried.{OrFails, Agrees, Disagrees, missing_atom}
use Rattle.wy_link.specs.Tried.{InstanceComesTo, BoundComesTo}
use Rattle.wy_link.specs.Lines.{missing_name, misfit_fault, NodesComeTo, UseTo, InstanceTo, ImportTo, NameComesTo, ScopeComesTo, LinesFrom, LinesComeTo}

------------------------------------------------------------
-- A plain module has a derivation, where all of them go on

plain_turn : (s : Scope) → s.kind ≡ Plain → is_its_turn plain_modules (turn_of s.kind) ≡ true
plain_turn s e = ap (λ v. is_its_turn plain_modules (turn_of v)) e

pub plain_holds : (p : Program) (k : ℕ) (names : List OwnName) (m : ℕ) → AllGoOn p (scopes_of plain_modules 0 p.scopes) → IsOfKind p Plain m → PlainHolds p k names m
plain_holds p k names m h kind =
    let s = kind.0 in
    let passes = (each_goes_on p plain_modules h m s kind.1 (plain_turn s kind.2)).passes in
    let holds = (scope_holds p m s passes.locals passes.nodes).1 in
    (s, kind.1, subst (λ b. ScopeHolds (reading_of p m b) s) (ap is_plain kind.2) holds)

------------------------------------------------------------
-- Uses

pub use_passes : (p : Program) (n : OwnName) (m : ℕ) → IsOfKind p Pure m → UseTo p n m None
use_passes p n m h k s = (record { expected = None; spot = refl; stands = h; settles = tt }, tt)

pub use_fails : (p : Program) (n : OwnName) (m : ℕ) (f : Fault) → f ≡ fault_at n.place MUse 1 → (IsOfKind p Pure m → ⊥) → UseTo p n m (Some f)
use_fails p n m f e h =
    subst (λ v. UseTo p n m (Some v)) (sym e)
    (λ k s. inl (record { expected = None; atom = None; spot = refl; stands_not = h; premise = (refl, refl); place = refl; rule = refl; lacks = refl }))

module _ (p : Program) (k : ℕ) (s : Scope) where
  ------------------------------------------------------------
  -- Instances

  named : (o : Option ℕ) → missing_name s.atoms o ≡ named_atom s o
  named None = refl
  named (Some a) = refl

  pub instance_passes : (n : OwnName) (m : ℕ) (arguments : List ℕ) (o : Option Misfit) → o ≡ None → InstanceComesTo p k s.names m arguments o → InstanceTo p k s n m arguments None
  instance_passes n m arguments o e h =
      (record { expected = None; spot = refl; stands = subst (InstanceComesTo p k s.names m arguments) e h; settles = tt }, tt)

  pub instance_fails : (n : OwnName) (m : ℕ) (arguments : List ℕ) (o : Option Misfit) (x : Misfit) (f : Fault) → o ≡ Some x → f ≡ misfit_fault n.place MInst s.atoms x →
      InstanceComesTo p k s.names m arguments o → InstanceTo p k s n m arguments (Some f)
  instance_fails n m arguments o x f e is h =
      let h' = subst (InstanceComesTo p k s.names m arguments) e h in
      subst (λ v. InstanceTo p k s n m arguments (Some v)) (sym is)
      (inl (record { expected = None; atom = missing_atom x.missing; spot = refl; stands_not = h'.0; premise = h'.1; place = refl; rule = refl; lacks = named (missing_atom x.missing) }))

  ------------------------------------------------------------
  -- Imports

  module _ (n : OwnName) (m : ℕ) (arguments bound : List ℕ) where
    abbrev ImportNode : Node
    ImportNode = node n.place MImport None nothing (import_line m arguments)

    pub import_misfits : (o : Option ℕ) (premise : ℕ) (f : Fault) → o ≡ Some premise → f ≡ fault_at n.place MImport premise →
        OrFails (Agrees p Plain m arguments) (Disagrees p Plain m arguments) o → ImportTo p k s n m arguments bound (Some f)
    import_misfits o premise f e is h =
        let h' = subst (OrFails (Agrees p Plain m arguments) (Disagrees p Plain m arguments)) e h in
        subst (λ v. ImportTo p k s n m arguments bound (Some v)) (sym is)
        (inl (record { expected = None; atom = None; spot = refl; stands_not = λ fits. h'.0 (fits.plain, fits.numbers); premise = (refl, h'.1); place = refl; rule = refl; lacks = refl }))

    import_fits : Agrees p Plain m arguments → Passes p k s [] ImportNode
    import_fits a = record { expected = None; spot = refl; stands = record { plain = a.0; numbers = a.1 }; settles = tt }

    pub bound_passes : (o : Option Misfit) → Agrees p Plain m arguments → o ≡ None → BoundComesTo p k s.names m arguments bound o → ImportTo p k s n m arguments bound None
    bound_passes o a e h =
        (import_fits a, (record { expected = None; spot = refl; stands = subst (BoundComesTo p k s.names m arguments bound) e h; settles = tt }, tt))

    pub bound_fails : (o : Option Misfit) (x : Misfit) (f : Fault) → Agrees p Plain m arguments → o ≡ Some x → f ≡ misfit_fault n.place IImport s.atoms x →
        BoundComesTo p k s.names m arguments bound o → ImportTo p k s n m arguments bound (Some f)
    bound_fails o x f a e is h =
        let h' = subst (BoundComesTo p k s.names m arguments bound) e h in
        subst (λ v. ImportTo p k s n m arguments bound (Some v)) (sym is)
        (inr (import_fits a, inl (record { expected = None; atom = missing_atom x.missing; spot = refl; stands_not = h'.0; premise = h'.1; place = refl; rule = refl; lacks = named (missing_atom x.missing) })))

  ------------------------------------------------------------
  -- One name more

  pub all_then : (ns ms : List Node) (o : Option Fault) → AllPass p k s [] ns → NodesComeTo p k s ms o → NodesComeTo p k s (ns ++ ms) o
  all_then [] ms o a h = h
  all_then (n ∷ ns) ms None a h = (a.0, all_then ns ms None a.1 h)
  all_then (n ∷ ns) ms (Some f) a h = inr (a.0, all_then ns ms (Some f) a.1 h)

  pub fails_then : (ns ms : List Node) (f : Fault) → FirstFailing p k s [] ns f → FirstFailing p k s [] (ns ++ ms) f
  fails_then [] ms f h = absurd h
  fails_then (n ∷ ns) ms f h = elim h [ inl g ↦ inl g | inr g ↦ inr (g.0, fails_then ns ms f g.1) ]

  module _ (W : Option Fault → Type 0) where
    pub next_name : (ns rest : List OwnName) (n : OwnName) (this : Option Fault) → ns ≡ n ∷ rest → NameComesTo p k s n this → is_some this ≡ false →
        ((o : Option Fault) → NodesComeTo p k s (lines_nodes ns) o → W o) → (o : Option Fault) → NodesComeTo p k s (lines_nodes rest) o → W o
    next_name ns rest n None e passes none inv o h =
        inv o (subst (λ l. NodesComeTo p k s (lines_nodes l) o) (sym e) (all_then (line_nodes n n.origin) (lines_nodes rest) o passes h))
    next_name ns rest n (Some f) e fails none inv o h = absurd (cc)

    pub this_name : (ns rest : List OwnName) (n : OwnName) (this : Option Fault) → ns ≡ n ∷ rest → NameComesTo p k s n this → is_some this ≡ true →
        ((o : Option Fault) → NodesComeTo p k s (lines_nodes ns) o → W o) → W this
    this_name ns rest n None e passes some inv = absurd (cc)
    this_name ns rest n (Some f) e fails some inv =
        inv (Some f) (subst (λ l. FirstFailing p k s [] (lines_nodes l) f) (sym e) (fails_then (line_nodes n n.origin) (lines_nodes rest) f fails))

    pub no_name : (ns : List OwnName) → ns ≡ [] → ((o : Option Fault) → NodesComeTo p k s (lines_nodes ns) o → W o) → W None
    no_name ns e inv = inv None (subst (λ l. AllPass p k s [] (lines_nodes l)) (sym e) tt)

------------------------------------------------------------
-- One scope more

module _ (p : Program) (W : Option Fault → Type 0) where
  after_scope : (k : ℕ) (s : Scope) (ss : List Scope) (o : Option Fault) → AllPass p k s [] (lines_nodes s.names) → LinesFrom p (k + 1) ss o → LinesFrom p k (s ∷ ss) o
  after_scope k s ss None a h = (a, h)
  after_scope k s ss (Some f) a h = inr (a, h)

  pub next_scope : (k : ℕ) (ss rest : List sc.Scope) (x : sc.Scope) (this : Option Fault) → ss ≡ x ∷ rest → ScopeComesTo p k (scope_of x) this → is_some this ≡ false →
      ((o : Option Fault) → LinesFrom p k (map scope_of ss) o → W o) → (o : Option Fault) → LinesFrom p (k + 1) (map scope_of rest) o → W o
  next_scope k ss rest x None e passes none inv o h =
      inv o (subst (λ l. LinesFrom p k (map scope_of l) o) (sym e) (after_scope k (scope_of x) (map scope_of rest) o passes h))
  next_scope k ss rest x (Some f) e fails none inv o h = absurd (cc)

  pub this_scope : (k : ℕ) (ss rest : List sc.Scope) (x : sc.Scope) (this : Option Fault) → ss ≡ x ∷ rest → ScopeComesTo p k (scope_of x) this → is_some this ≡ true →
      ((o : Option Fault) → LinesFrom p k (map scope_of ss) o → W o) → W this
  this_scope k ss rest x None e passes some inv = absurd (cc)
  this_scope k ss rest x (Some f) e fails some inv =
      inv (Some f) (subst (λ l. LinesFrom p k (map scope_of l) (Some f)) (sym e) (inl fails))

  pub no_scope : (k : ℕ) (ss : List sc.Scope) → ss ≡ [] → ((o : Option Fault) → LinesFrom p k (map scope_of ss) o → W o) → W None
  no_scope k ss e inv = inv None (subst (λ l. LinesFrom p k (map scope_of l) None) (sym e) tt)

pub lines_from : (p : Program) (o : Option Fault) → LinesFrom p 0 p.scopes o → LinesComeTo p o
lines_from p None h = h
lines_from p (Some f) h = h
