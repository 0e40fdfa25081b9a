-- Printed texts that end lines, and lines that stand deeper.
use Rattle.std.proofs.Common.{◌≡◌, ℕ, suc, Bool, true, List, [], ◌++◌, codes, refl, sym, ap, subst, ◌∙◌, append_assoc}
use Rattle.wy_text.specs.declared.token.TokenKind.TheVariants as kind
use Rattle.wy_syntax.specs.Tokens.{Tok}
use Rattle.wy_syntax.specs.Languages.{Lang, Sign, ◌⨟◌}
use Rattle.wy_syntax.specs.Canonical.{newline, indented}
use Rattle.wy_canonical.proofs.Reading.{LinesIn, RestIn}
use Rattle.wy_canonical.proofs.LineReading.{rest_end, rest_map, lines_map, opens, opens_append, UpIn, up_here, up_out, up_map, up_line, deeper_line}
use Rattle.wy_canonical.proofs.Printing.{Prints, word_of}

-- the text ends a line, behind which lines begin
pub record Turns (n : ℕ) (u : List ℕ) (F : Lang → Lang) : Type 1 where
  pub reads : (r : List ℕ) (Q : Lang) → LinesIn n r Q → RestIn n (u ++ r) (F Q)

-- the text ends a line, or a block deeper than its line
pub record Ends (n : ℕ) (u : List ℕ) (F : Lang → Lang) : Type 1 where
  pub reads : (r : List ℕ) (Q : Lang) → UpIn n r Q → RestIn n (u ++ r) (F Q)

-- the text has lines at the indentation, or deeper ones behind such
pub record Ups (n : ℕ) (u : List ℕ) (F : Lang → Lang) : Type 1 where
  pub reads : (r : List ℕ) (Q : Lang) → UpIn n r Q → UpIn n (u ++ r) (F Q)

-- the text has lines that stand deeper, or none
pub record Inner (n : ℕ) (u : List ℕ) (F : Lang → Lang) : Type 1 where
  pub reads : (r : List ℕ) (Q : Lang) → UpIn n r Q → LinesIn n (u ++ r) (F Q)

-- the text has a line at the indentation first
pub record Led (n : ℕ) (u : List ℕ) (F : Lang → Lang) : Type 1 where
  pub line : List ℕ
  pub parts : u ≡ indented n ++ line
  pub begins : opens line ≡ true
  pub ends : Ends n line F

-- a text that ends and opens a line
pub record OpenEnds (n : ℕ) (u : List ℕ) (F : Lang → Lang) : Type 1 where
  pub ends : Ends n u F
  pub begins : opens u ≡ true

-- ---- put together

-- a newline
pub line_end : {n : ℕ} → Turns n newline (λ Q. Sign kind.Nl ⨟ Q)
line_end {n} = record { reads = λ r Q h. rest_end n r Q h }

-- a text in the line, and one that ends it
pub seq_turn : {t : List ℕ → Bool} {n : ℕ} {u v : List ℕ} {F G : Lang → Lang} → Prints t u F → Turns n v G → ((r : List ℕ) → t (v ++ r) ≡ true) → Turns n (u ++ v) (λ Q. F (G Q))
seq_turn {n = n} {u = u} {v = v} {F = F} {G = G} p q h = record { reads = λ r Q k. subst (λ (x : List ℕ). RestIn n x (F (G Q))) (sym (append_assoc u v r)) (p.reads n (v ++ r) (G Q) (h r) (q.reads r Q k)) }

-- the same, with a block behind
pub seq_end : {t : List ℕ → Bool} {n : ℕ} {u v : List ℕ} {F G : Lang → Lang} → Prints t u F → Ends n v G → ((r : List ℕ) → t (v ++ r) ≡ true) → Ends n (u ++ v) (λ Q. F (G Q))
seq_end {n = n} {u = u} {v = v} {F = F} {G = G} p q h = record { reads = λ r Q k. subst (λ (x : List ℕ). RestIn n x (F (G Q))) (sym (append_assoc u v r)) (p.reads n (v ++ r) (G Q) (h r) (q.reads r Q k)) }

-- a text that ends the line, and deeper lines
pub turn_inner : {n : ℕ} {u v : List ℕ} {F G : Lang → Lang} → Turns n u F → Inner n v G → Ends n (u ++ v) (λ Q. F (G Q))
turn_inner {n} {u} {v} {F} {G} p q = record { reads = λ r Q k. subst (λ (x : List ℕ). RestIn n x (F (G Q))) (sym (append_assoc u v r)) (p.reads (v ++ r) (G Q) (q.reads r Q k)) }

-- and further lines
pub ends_ups : {n : ℕ} {u v : List ℕ} {F G : Lang → Lang} → Ends n u F → Ups n v G → Ends n (u ++ v) (λ Q. F (G Q))
ends_ups {n} {u} {v} {F} {G} p q = record { reads = λ r Q k. subst (λ (x : List ℕ). RestIn n x (F (G Q))) (sym (append_assoc u v r)) (p.reads (v ++ r) (G Q) (q.reads r Q k)) }

-- lines, and further lines
pub ups_ups : {n : ℕ} {u v : List ℕ} {F G : Lang → Lang} → Ups n u F → Ups n v G → Ups n (u ++ v) (λ Q. F (G Q))
ups_ups {n} {u} {v} {F} {G} p q = record { reads = λ r Q k. subst (λ (x : List ℕ). UpIn n x (F (G Q))) (sym (append_assoc u v r)) (p.reads (v ++ r) (G Q) (q.reads r Q k)) }

-- where no deeper lines stand
pub turn_ends : {n : ℕ} {u : List ℕ} {F : Lang → Lang} → Turns n u F → Ends n u F
turn_ends {n} p = record { reads = λ r Q k. p.reads r Q (up_here n r Q k) }

-- what is read says more
pub conv_end : {n : ℕ} {u : List ℕ} {F G : Lang → Lang} → Ends n u F → ((Q : Lang) (w : List Tok) → F Q w → G Q w) → Ends n u G
conv_end {n} {u} {F} {G} p f = record { reads = λ r Q k. rest_map n (u ++ r) (F Q) (G Q) (f Q) (p.reads r Q k) }

pub conv_ups : {n : ℕ} {u : List ℕ} {F G : Lang → Lang} → Ups n u F → ((Q : Lang) (w : List Tok) → F Q w → G Q w) → Ups n u G
conv_ups {n} {u} {F} {G} p f = record { reads = λ r Q k. up_map n (u ++ r) (F Q) (G Q) (f Q) (p.reads r Q k) }

pub conv_inner : {n : ℕ} {u : List ℕ} {F G : Lang → Lang} → Inner n u F → ((Q : Lang) (w : List Tok) → F Q w → G Q w) → Inner n u G
conv_inner {n} {u} {F} {G} p f = record { reads = λ r Q k. lines_map n (u ++ r) (F Q) (G Q) (f Q) (p.reads r Q k) }

-- no lines
pub no_lines : {n : ℕ} → Ups n [] (λ Q. Q)
no_lines = record { reads = λ r Q k. k }

pub no_inner : {n : ℕ} → Inner n [] (λ Q. Q)
no_inner {n} = record { reads = λ r Q k. up_here n r Q k }

-- ---- lines

-- a text in a line of its own
pub led : {n : ℕ} {u : List ℕ} {F : Lang → Lang} → OpenEnds n u F → Led n (indented n ++ u) F
led {n} {u} o = record { line = u; parts = refl; begins = o.begins; ends = o.ends }

-- with further lines behind
pub led_ups : {n : ℕ} {u v : List ℕ} {F G : Lang → Lang} → Led n u F → Ups n v G → Led n (u ++ v) (λ Q. F (G Q))
led_ups {n} {u} {v} p q = record {
  line = p.line ++ v;
  parts = ap (λ (x : List ℕ). x ++ v) p.parts ∙ append_assoc (indented n) p.line v;
  begins = opens_append p.line v p.begins;
  ends = ends_ups p.ends q;
}

-- what is read says more
pub conv_led : {n : ℕ} {u : List ℕ} {F G : Lang → Lang} → Led n u F → ((Q : Lang) (w : List Tok) → F Q w → G Q w) → Led n u G
conv_led p f = record { line = p.line; parts = p.parts; begins = p.begins; ends = conv_end p.ends f }

-- at the indentation
pub up_led : {n : ℕ} {u : List ℕ} {F : Lang → Lang} → Led n u F → Ups n u F
up_led {n} {u} {F} p = record {
  reads = λ r Q k. subst (λ (x : List ℕ). UpIn n x (F Q)) (sym (ap (λ (x : List ℕ). x ++ r) p.parts ∙ append_assoc (indented n) p.line r))
      (up_line n (p.line ++ r) (F Q) (opens_append p.line r p.begins) (let e = p.ends in e.reads r Q k));
}

-- one deeper
pub in_led : {n : ℕ} {u : List ℕ} {F : Lang → Lang} → Led (suc n) u F → Inner n u (λ Q. Sign kind.In ⨟ F (Sign kind.Out ⨟ Q))
in_led {n} {u} {F} p = record {
  reads = λ r Q k. subst (λ (x : List ℕ). LinesIn n x (Sign kind.In ⨟ F (Sign kind.Out ⨟ Q))) (sym (ap (λ (x : List ℕ). x ++ r) p.parts ∙ append_assoc (indented (suc n)) p.line r))
      (deeper_line n (p.line ++ r) (F (Sign kind.Out ⨟ Q)) (opens_append p.line r p.begins) (let e = p.ends in e.reads r (Sign kind.Out ⨟ Q) (up_out n r Q k)));
}

-- ---- lines or none

-- the text is empty, and says nothing; or it has a line at the indentation first
pub data LedOr (n : ℕ) (u : List ℕ) (F : Lang → Lang) : Type 1 where
  nothing : u ≡ [] → ((Q : Lang) (w : List Tok) → Q w → F Q w) → LedOr n u F
  line : Led n u F → LedOr n u F

-- as lines behind such
pub ups_of : {n : ℕ} {u : List ℕ} {F : Lang → Lang} → LedOr n u F → Ups n u F
ups_of {n} {u} {F} (nothing e f) = record { reads = λ r Q k. subst (λ (x : List ℕ). UpIn n (x ++ r) (F Q)) (sym e) (up_map n r Q (F Q) (f Q) k) }
ups_of (line l) = up_led l

-- one behind the other
pub both_led : {n : ℕ} {u v : List ℕ} {F G : Lang → Lang} → LedOr n u F → LedOr n v G → LedOr n (u ++ v) (λ Q. F (G Q))
both_led {n} {u} {v} {F} {G} (nothing e f) (nothing d g) = nothing (ap (λ (x : List ℕ). x ++ v) e ∙ d) (λ Q w x. f (G Q) w (g Q w x))
both_led {n} {u} {v} {F} {G} (nothing e f) (line l) = line (record { line = l.line; parts = ap (λ (x : List ℕ). x ++ v) e ∙ l.parts; begins = l.begins; ends = conv_end l.ends (λ Q w x. f (G Q) w x) })
both_led (line l) (nothing d g) = line (led_ups l (ups_of (nothing d g)))
both_led (line l) (line m) = line (led_ups l (ups_of (line m)))

-- what is read says more
pub conv_or : {n : ℕ} {u : List ℕ} {F G : Lang → Lang} → LedOr n u F → ((Q : Lang) (w : List Tok) → F Q w → G Q w) → LedOr n u G
conv_or {F = F} (nothing e f) g = nothing e (λ Q w x. g Q w (f Q w x))
conv_or (line l) g = line (conv_led l g)

-- a line, and then lines or none
pub some_led : {n : ℕ} {u v : List ℕ} {F G : Lang → Lang} → Led n u F → LedOr n v G → Led n (u ++ v) (λ Q. F (G Q))
some_led l k = led_ups l (ups_of k)

-- ---- an if in lines of its own

nested : (a b c d e r : List ℕ) → ((((a ++ b) ++ c) ++ d) ++ e) ++ r ≡ a ++ (b ++ (c ++ (d ++ (e ++ r))))
nested a b c d e r = append_assoc (((a ++ b) ++ c) ++ d) e r ∙ append_assoc ((a ++ b) ++ c) d (e ++ r) ∙ append_assoc (a ++ b) c (d ++ (e ++ r)) ∙ append_assoc a b (c ++ (d ++ (e ++ r)))

-- what stands before an else, in a line at the indentation, and what stands deeper behind it
pub else_line : {n : ℕ} {u v : List ℕ} {F G : Lang → Lang} → Ends n u F → Inner n v G → Ends n ((((u ++ indented n) ++ codes "else") ++ newline) ++ v) (λ Q. F (Sign kind.KwElse ⨟ Sign kind.Nl ⨟ G Q))
else_line {n} {u} {v} {F} {G} p q = record {
  reads = λ r Q k.
      subst (λ (x : List ℕ). RestIn n x (F (Sign kind.KwElse ⨟ Sign kind.Nl ⨟ G Q))) (sym (nested u (indented n) (codes "else") newline v r))
      (p.reads (indented n ++ (codes "else" ++ (newline ++ (v ++ r)))) (Sign kind.KwElse ⨟ Sign kind.Nl ⨟ G Q)
      (up_line n (codes "else" ++ (newline ++ (v ++ r))) (Sign kind.KwElse ⨟ Sign kind.Nl ⨟ G Q) refl
      (let w = word_of kind.KwElse refl refl in w.reads n (newline ++ (v ++ r)) (Sign kind.Nl ⨟ G Q) refl (rest_end n (v ++ r) (G Q) (q.reads r Q k)))));
}

-- lines or none, and then a line
pub or_led : {n : ℕ} {u v : List ℕ} {F G : Lang → Lang} → LedOr n u F → Led n v G → Led n (u ++ v) (λ Q. F (G Q))
or_led {n} {u} {v} {F} {G} (nothing e f) l = record { line = l.line; parts = ap (λ (x : List ℕ). x ++ v) e ∙ l.parts; begins = l.begins; ends = conv_end l.ends (λ Q w x. f (G Q) w x) }
or_led (line k) l = led_ups k (up_led l)
