-- Worked examples: token lists of small files, and the trees that they spell.
use Rattle.std.proofs.Common.{◌≡◌, ℕ, ◌+◌, List, [], ◌∷◌, ◌++◌, length, refl, subst, arith, lit<}
use Rattle.std.proofs.lemmas.Fmt.{decimal-digits_of}
use Rattle.std.specs.Prelude.{pos, negsuc, codes, decimal, None, Some}
use Rattle.wy_text.specs.declared.fault.Place.{Place}
use Rattle.wy_text.specs.declared.token.TokenKind.{TokenKind}
use Rattle.wy_text.specs.declared.token.TokenKind.TheVariants as kind
use Rattle.wy_syntax.specs.declared.types.Name.{Name}
use Rattle.wy_syntax.specs.declared.types.AtomUse.{AtomUse}
use Rattle.wy_syntax.specs.declared.types.TypeUse.{TypeUse}
use Rattle.wy_syntax.specs.declared.types.TypeUse.TheVariants as types
use Rattle.wy_syntax.specs.declared.types.Param.{Param}
use Rattle.wy_syntax.specs.declared.types.Signature.{Signature}
use Rattle.wy_syntax.specs.declared.expressions.Operator.TheVariants as op
use Rattle.wy_syntax.specs.declared.items.Member.TheVariants as members
use Rattle.wy_syntax.specs.declared.items.Grant.{Grant}
use Rattle.wy_syntax.specs.Tokens.{Tok}
use Rattle.wy_syntax.specs.Trees.{number, text, name, negate, binary, call, ascribe, choice, none, more, value, run, no_stmts, more_stmts, method, no_parts, more_parts, short, long, ItemTree, type_item, resource_item, program_item}
use Rattle.wy_syntax.specs.Grammar.{Spells}
use Rattle.wy_syntax.specs.Canonical.{canonical_form, expr_text}
use Rattle.wy_syntax.specs.Nodes.{count_before}
use Rattle.wy_parser.specs.Reading.{Out, Yes, No}
use Rattle.wy_parser.specs.Parsing.{atom, set, member_set, object_rest, object, type_use, param, effect, signature}
use Rattle.wy_parser.specs.ExprParsing.{atomic, built, built1, several_arguments, one_argument, parens, ascription, call_part, post, minus, bang, unary, product, sum, compare, conj, disj, choice_rest, choice_of, p_unary}
use Rattle.wy_parser.specs.StmtParsing.{part, method_of, field_of, tail, block_of, stmt, assign_of, val_of, untyped_val, typed_val, untyped_rhs, rhs, expr_line, if_of, branch_rest, indented_block, literal_of, parts_inside, p_rhs}
use Rattle.wy_parser.specs.ItemParsing.{items, item, type_of, pure_of, with_params, program_of, p_file, inside_lines, inside_of, grant_of, init_of, define_of, line_of, line_with, use_of, members_inside, member_of, method_member, effect_member}
use Rattle.wy_parser.proofs.OneEnd.{NoEnd, OneEnd}
use Rattle.wy_parser.proofs.FileReader.{Result', whole_is}

abbrev at : ℕ → ℕ → Place
at line column = record { file = 1; line = line; column = column }

abbrev tok : TokenKind → ℕ → ℕ → Tok
tok kind1 line column = record { kind = kind1; place = at line column }

abbrev named : List ℕ → ℕ → ℕ → Name
named written line column = record { text = written; place = at line column }

abbrev alone : List ℕ → ℕ → ℕ → AtomUse
alone member line column = record { owner = None; member = named member line column }

abbrev owned : List ℕ → ℕ → ℕ → List ℕ → ℕ → ℕ → AtomUse
owned owner line column member line2 column2 = record { owner = Some (named owner line column); member = named member line2 column2 }

abbrev string : List ℕ → ℕ → ℕ → ℕ → ℕ → Param
string written line column line2 column2 = record { name = named written line column; type_use = types.Text (at line2 column2) }

abbrev signed : Place → Name → List Param → List AtomUse → TypeUse → Signature
signed place named1 params set1 result = record { place = place; name = named1; params = params; effect = Some set1; result = result }

abbrev grant : Name → Name → Grant
grant named1 kind1 = record { name = named1; kind = kind1 }

-- what reading gives is spelled
spelled_by : (ts : List Tok) (tree : List ItemTree) → OneEnd ts → p_file (length ts + 2) ts ≡ Yes tree [] → Spells ts tree
spelled_by ts tree ends e = subst (λ (o : Out Tok (List ItemTree)). Result' ts o) e (whole_is (length ts + 2) ts ends (omega arith))

--     program
--       grant console: Console
--       run: {console.Out}
--         console.write("hello\n")
abbrev pub hello_front : List Tok
hello_front = tok kind.KwProgram 1 1 ∷ tok kind.Nl 1 8 ∷ tok kind.In 2 3 ∷ tok kind.KwGrant 2 3 ∷ tok (kind.Name (codes "console")) 2 9 ∷ tok kind.SymColon 2 16 ∷ tok (kind.Name (codes "Console")) 2 18 ∷ tok kind.Nl 2 25 ∷ tok kind.KwRun 3 3 ∷ tok kind.SymColon 3 6 ∷ tok kind.SymOpenBrace 3 8 ∷ tok (kind.Name (codes "console")) 3 9 ∷ tok kind.SymDot 3 16 ∷ tok (kind.Name (codes "Out")) 3 17 ∷ tok kind.SymCloseBrace 3 20 ∷ tok kind.Nl 3 21 ∷ tok kind.In 4 5 ∷ tok (kind.Name (codes "console")) 4 5 ∷ tok kind.SymDot 4 12 ∷ tok (kind.Name (codes "write")) 4 13 ∷ tok kind.SymOpenParen 4 18 ∷ tok (kind.Text (codes "hello\n")) 4 19 ∷ tok kind.SymCloseParen 4 28 ∷ tok kind.Nl 4 29 ∷ tok kind.Out 5 1 ∷ tok kind.Out 5 1 ∷ []

abbrev pub hello_tokens : List Tok
hello_tokens = hello_front ++ tok kind.End 5 1 ∷ []

abbrev pub hello_tree : List ItemTree
hello_tree = program_item (at 1 1) (grant (named (codes "console") 2 9) (named (codes "Console") 2 18) ∷ []) [] [] (at 3 3) (owned (codes "console") 3 9 (codes "Out") 3 17 ∷ [])
    (long (more_stmts (run (value (call (name (named (codes "console") 4 5)) (named (codes "write") 4 13) (more (text (codes "hello\n") (at 4 19)) none)))) no_stmts)) ∷ []

hello_read : p_file (length hello_tokens + 2) hello_tokens ≡ Yes hello_tree []
unfolding items item type_of pure_of with_params program_of p_file inside_lines inside_of grant_of init_of define_of line_of line_with use_of members_inside member_of method_member effect_member part method_of field_of tail block_of stmt assign_of val_of untyped_val typed_val untyped_rhs rhs expr_line if_of branch_rest indented_block literal_of parts_inside p_rhs atomic built built1 several_arguments one_argument parens ascription call_part post minus bang unary product sum compare conj disj choice_rest choice_of p_unary atom set member_set object_rest object type_use param effect signature
hello_read = refl

pub hello_spelled : Spells hello_tokens hello_tree
hello_spelled = spelled_by hello_tokens hello_tree (record { front = hello_front; last = tok kind.End 5 1; parts = refl; is = refl; before = hello_no_end }) hello_read
  where
    hello_no_end : NoEnd hello_front
    hello_no_end = ((λ e. cc), ((λ e. cc), ((λ e. cc), ((λ e. cc), ((λ e. cc), ((λ e. cc), ((λ e. cc), ((λ e. cc), ((λ e. cc), ((λ e. cc), ((λ e. cc), ((λ e. cc), ((λ e. cc), ((λ e. cc), ((λ e. cc), ((λ e. cc), ((λ e. cc), ((λ e. cc), ((λ e. cc), ((λ e. cc), ((λ e. cc), ((λ e. cc), ((λ e. cc), ((λ e. cc), ((λ e. cc), ((λ e. cc), tt))))))))))))))))))))))))))

--     type Logger
--       effect Log
--       def log(t: String): {Log} Unit
--     resource module logger(disk: Folder): Logger
--       effect Log = {disk.Append}
--       def log(t: String): {Log} Unit = disk.append("log", t)
abbrev pub logger_front : List Tok
logger_front = tok kind.KwType 1 1 ∷ tok (kind.Name (codes "Logger")) 1 6 ∷ tok kind.Nl 1 12 ∷ tok kind.In 2 3 ∷ tok kind.KwEffect 2 3 ∷ tok (kind.Name (codes "Log")) 2 10 ∷ tok kind.Nl 2 13 ∷ tok kind.KwDef 3 3 ∷ tok (kind.Name (codes "log")) 3 7 ∷ tok kind.SymOpenParen 3 10 ∷ tok (kind.Name (codes "t")) 3 11 ∷ tok kind.SymColon 3 12 ∷ tok kind.KwString 3 14 ∷ tok kind.SymCloseParen 3 20 ∷ tok kind.SymColon 3 21 ∷ tok kind.SymOpenBrace 3 23 ∷ tok (kind.Name (codes "Log")) 3 24 ∷ tok kind.SymCloseBrace 3 27 ∷ tok kind.KwUnit 3 29 ∷ tok kind.Nl 3 33 ∷ tok kind.Out 4 1 ∷ tok kind.KwResource 4 1 ∷ tok kind.KwModule 4 10 ∷ tok (kind.Name (codes "logger")) 4 17 ∷ tok kind.SymOpenParen 4 23 ∷ tok (kind.Name (codes "disk")) 4 24 ∷ tok kind.SymColon 4 28 ∷ tok (kind.Name (codes "Folder")) 4 30 ∷ tok kind.SymCloseParen 4 36 ∷ tok kind.SymColon 4 37 ∷ tok (kind.Name (codes "Logger")) 4 39 ∷ tok kind.Nl 4 45 ∷ tok kind.In 5 3 ∷ tok kind.KwEffect 5 3 ∷ tok (kind.Name (codes "Log")) 5 10 ∷ tok kind.SymEqual 5 14 ∷ tok kind.SymOpenBrace 5 16 ∷ tok (kind.Name (codes "disk")) 5 17 ∷ tok kind.SymDot 5 21 ∷ tok (kind.Name (codes "Append")) 5 22 ∷ tok kind.SymCloseBrace 5 28 ∷ tok kind.Nl 5 29 ∷ tok kind.KwDef 6 3 ∷ tok (kind.Name (codes "log")) 6 7 ∷ tok kind.SymOpenParen 6 10 ∷ tok (kind.Name (codes "t")) 6 11 ∷ tok kind.SymColon 6 12 ∷ tok kind.KwString 6 14 ∷ tok kind.SymCloseParen 6 20 ∷ tok kind.SymColon 6 21 ∷ tok kind.SymOpenBrace 6 23 ∷ tok (kind.Name (codes "Log")) 6 24 ∷ tok kind.SymCloseBrace 6 27 ∷ tok kind.KwUnit 6 29 ∷ tok kind.SymEqual 6 34 ∷ tok (kind.Name (codes "disk")) 6 36 ∷ tok kind.SymDot 6 40 ∷ tok (kind.Name (codes "append")) 6 41 ∷ tok kind.SymOpenParen 6 47 ∷ tok (kind.Text (codes "log")) 6 48 ∷ tok kind.SymComma 6 53 ∷ tok (kind.Name (codes "t")) 6 55 ∷ tok kind.SymCloseParen 6 56 ∷ tok kind.Nl 6 57 ∷ tok kind.Out 7 1 ∷ []

abbrev pub logger_tokens : List Tok
logger_tokens = logger_front ++ tok kind.End 7 1 ∷ []

abbrev pub logger_tree : List ItemTree
logger_tree = type_item (record { place = at 1 1; name = named (codes "Logger") 1 6; members = members.Abstract (named (codes "Log") 2 10) ∷ members.Method (signed (at 3 3) (named (codes "log") 3 7) (string (codes "t") 3 11 3 14 ∷ []) (alone (codes "Log") 3 24 ∷ []) (types.Unit (at 3 29))) ∷ [] })
    ∷ resource_item (at 4 1) (named (codes "logger") 4 17) (record { name = named (codes "disk") 4 24; type_use = types.Bare (named (codes "Folder") 4 30) } ∷ []) (named (codes "Logger") 4 39)
    (record {
      uses = [];
      lines = [];
      defines = record { name = named (codes "Log") 5 10; effect = owned (codes "disk") 5 17 (codes "Append") 5 22 ∷ [] } ∷ [];
      init = None;
      parts = more_parts (method (signed (at 6 3) (named (codes "log") 6 7) (string (codes "t") 6 11 6 14 ∷ []) (alone (codes "Log") 6 24 ∷ []) (types.Unit (at 6 29)))
          (short (value (call (name (named (codes "disk") 6 36)) (named (codes "append") 6 41) (more (text (codes "log") (at 6 48)) (more (name (named (codes "t") 6 55)) none)))))) no_parts;
    }) ∷ []

logger_read : p_file (length logger_tokens + 2) logger_tokens ≡ Yes logger_tree []
unfolding items item type_of pure_of with_params program_of p_file inside_lines inside_of grant_of init_of define_of line_of line_with use_of members_inside member_of method_member effect_member part method_of field_of tail block_of stmt assign_of val_of untyped_val typed_val untyped_rhs rhs expr_line if_of branch_rest indented_block literal_of parts_inside p_rhs atomic built built1 several_arguments one_argument parens ascription call_part post minus bang unary product sum compare conj disj choice_rest choice_of p_unary atom set member_set object_rest object type_use param effect signature
logger_read = refl

pub logger_spelled : Spells logger_tokens logger_tree
logger_spelled = spelled_by logger_tokens logger_tree (record { front = logger_front; last = tok kind.End 7 1; parts = refl; is = refl; before = logger_no_end }) logger_read
  where
    logger_no_end : NoEnd logger_front
    logger_no_end = ((λ e. cc), ((λ e. cc), ((λ e. cc), ((λ e. cc), ((λ e. cc), ((λ e. cc), ((λ e. cc), ((λ e. cc), ((λ e. cc), ((λ e. cc), ((λ e. cc), ((λ e. cc), ((λ e. cc), ((λ e. cc), ((λ e. cc), ((λ e. cc), ((λ e. cc), ((λ e. cc), ((λ e. cc), ((λ e. cc), ((λ e. cc), ((λ e. cc), ((λ e. cc), ((λ e. cc), ((λ e. cc), ((λ e. cc), ((λ e. cc), ((λ e. cc), ((λ e. cc), ((λ e. cc), ((λ e. cc), ((λ e. cc), ((λ e. cc), ((λ e. cc), ((λ e. cc), ((λ e. cc), ((λ e. cc), ((λ e. cc), ((λ e. cc), ((λ e. cc), ((λ e. cc), ((λ e. cc), ((λ e. cc), ((λ e. cc), ((λ e. cc), ((λ e. cc), ((λ e. cc), ((λ e. cc), ((λ e. cc), ((λ e. cc), ((λ e. cc), ((λ e. cc), ((λ e. cc), ((λ e. cc), ((λ e. cc), ((λ e. cc), ((λ e. cc), ((λ e. cc), ((λ e. cc), ((λ e. cc), ((λ e. cc), ((λ e. cc), ((λ e. cc), ((λ e. cc), ((λ e. cc), tt)))))))))))))))))))))))))))))))))))))))))))))))))))))))))))))))))

--     type Quiet
--       effect Log
--       effect Tick <= {Log}
--       effect Idle <= {}
abbrev pub quiet_front : List Tok
quiet_front = tok kind.KwType 1 1 ∷ tok (kind.Name (codes "Quiet")) 1 6 ∷ tok kind.Nl 1 11 ∷ tok kind.In 2 3 ∷ tok kind.KwEffect 2 3 ∷ tok (kind.Name (codes "Log")) 2 10 ∷ tok kind.Nl 2 13 ∷ tok kind.KwEffect 3 3 ∷ tok (kind.Name (codes "Tick")) 3 10 ∷ tok kind.SymLessEqual 3 15 ∷ tok kind.SymOpenBrace 3 18 ∷ tok (kind.Name (codes "Log")) 3 19 ∷ tok kind.SymCloseBrace 3 22 ∷ tok kind.Nl 3 23 ∷ tok kind.KwEffect 4 3 ∷ tok (kind.Name (codes "Idle")) 4 10 ∷ tok kind.SymLessEqual 4 15 ∷ tok kind.SymOpenBrace 4 18 ∷ tok kind.SymCloseBrace 4 19 ∷ tok kind.Nl 4 20 ∷ tok kind.Out 5 1 ∷ []

abbrev pub quiet_tokens : List Tok
quiet_tokens = quiet_front ++ tok kind.End 5 1 ∷ []

abbrev pub quiet_tree : List ItemTree
quiet_tree = type_item (record { place = at 1 1; name = named (codes "Quiet") 1 6; members = members.Abstract (named (codes "Log") 2 10) ∷ members.Bounded (named (codes "Tick") 3 10) (alone (codes "Log") 3 19 ∷ []) ∷ members.Bounded (named (codes "Idle") 4 10) [] ∷ [] }) ∷ []

quiet_read : p_file (length quiet_tokens + 2) quiet_tokens ≡ Yes quiet_tree []
unfolding items item type_of pure_of with_params program_of p_file inside_lines inside_of grant_of init_of define_of line_of line_with use_of members_inside member_of method_member effect_member part method_of field_of tail block_of stmt assign_of val_of untyped_val typed_val untyped_rhs rhs expr_line if_of branch_rest indented_block literal_of parts_inside p_rhs atomic built built1 several_arguments one_argument parens ascription call_part post minus bang unary product sum compare conj disj choice_rest choice_of p_unary atom set member_set object_rest object type_use param effect signature
quiet_read = refl

pub quiet_spelled : Spells quiet_tokens quiet_tree
quiet_spelled = spelled_by quiet_tokens quiet_tree (record { front = quiet_front; last = tok kind.End 5 1; parts = refl; is = refl; before = quiet_no_end }) quiet_read
  where
    quiet_no_end : NoEnd quiet_front
    quiet_no_end = ((λ e. cc), ((λ e. cc), ((λ e. cc), ((λ e. cc), ((λ e. cc), ((λ e. cc), ((λ e. cc), ((λ e. cc), ((λ e. cc), ((λ e. cc), ((λ e. cc), ((λ e. cc), ((λ e. cc), ((λ e. cc), ((λ e. cc), ((λ e. cc), ((λ e. cc), ((λ e. cc), ((λ e. cc), ((λ e. cc), ((λ e. cc), tt)))))))))))))))))))))

--     resource module pick(): Pick
--       def pick(c: Bool, x: B, y: A): {} A = if c then x else y
abbrev pub pick_front : List Tok
pick_front = tok kind.KwResource 1 1 ∷ tok kind.KwModule 1 10 ∷ tok (kind.Name (codes "pick")) 1 17 ∷ tok kind.SymOpenParen 1 21 ∷ tok kind.SymCloseParen 1 22 ∷ tok kind.SymColon 1 23 ∷ tok (kind.Name (codes "Pick")) 1 25 ∷ tok kind.Nl 1 29 ∷ tok kind.In 2 3 ∷ tok kind.KwDef 2 3 ∷ tok (kind.Name (codes "pick")) 2 7 ∷ tok kind.SymOpenParen 2 11 ∷ tok (kind.Name (codes "c")) 2 12 ∷ tok kind.SymColon 2 13 ∷ tok kind.KwBool 2 15 ∷ tok kind.SymComma 2 19 ∷ tok (kind.Name (codes "x")) 2 21 ∷ tok kind.SymColon 2 22 ∷ tok (kind.Name (codes "B")) 2 24 ∷ tok kind.SymComma 2 25 ∷ tok (kind.Name (codes "y")) 2 27 ∷ tok kind.SymColon 2 28 ∷ tok (kind.Name (codes "A")) 2 30 ∷ tok kind.SymCloseParen 2 31 ∷ tok kind.SymColon 2 32 ∷ tok kind.SymOpenBrace 2 34 ∷ tok kind.SymCloseBrace 2 35 ∷ tok (kind.Name (codes "A")) 2 37 ∷ tok kind.SymEqual 2 39 ∷ tok kind.KwIf 2 41 ∷ tok (kind.Name (codes "c")) 2 44 ∷ tok kind.KwThen 2 46 ∷ tok (kind.Name (codes "x")) 2 51 ∷ tok kind.KwElse 2 53 ∷ tok (kind.Name (codes "y")) 2 58 ∷ tok kind.Nl 2 59 ∷ tok kind.Out 3 1 ∷ []

abbrev pub pick_tokens : List Tok
pick_tokens = pick_front ++ tok kind.End 3 1 ∷ []

abbrev pub pick_tree : List ItemTree
pick_tree = resource_item (at 1 1) (named (codes "pick") 1 17) [] (named (codes "Pick") 1 25)
    (record {
      uses = [];
      lines = [];
      defines = [];
      init = None;
      parts = more_parts (method (signed (at 2 3) (named (codes "pick") 2 7) (record { name = named (codes "c") 2 12; type_use = types.Bool (at 2 15) } ∷ record { name = named (codes "x") 2 21; type_use = types.Bare (named (codes "B") 2 24) } ∷ record { name = named (codes "y") 2 27; type_use = types.Bare (named (codes "A") 2 30) } ∷ []) [] (types.Bare (named (codes "A") 2 37)))
          (short (value (choice (name (named (codes "c") 2 44)) (name (named (codes "x") 2 51)) (name (named (codes "y") 2 58)) (at 2 41))))) no_parts;
    }) ∷ []

pick_read : p_file (length pick_tokens + 2) pick_tokens ≡ Yes pick_tree []
unfolding items item type_of pure_of with_params program_of p_file inside_lines inside_of grant_of init_of define_of line_of line_with use_of members_inside member_of method_member effect_member part method_of field_of tail block_of stmt assign_of val_of untyped_val typed_val untyped_rhs rhs expr_line if_of branch_rest indented_block literal_of parts_inside p_rhs atomic built built1 several_arguments one_argument parens ascription call_part post minus bang unary product sum compare conj disj choice_rest choice_of p_unary atom set member_set object_rest object type_use param effect signature
pick_read = refl

pub pick_spelled : Spells pick_tokens pick_tree
pick_spelled = spelled_by pick_tokens pick_tree (record { front = pick_front; last = tok kind.End 3 1; parts = refl; is = refl; before = pick_no_end }) pick_read
  where
    pick_no_end : NoEnd pick_front
    pick_no_end = ((λ e. cc), ((λ e. cc), ((λ e. cc), ((λ e. cc), ((λ e. cc), ((λ e. cc), ((λ e. cc), ((λ e. cc), ((λ e. cc), ((λ e. cc), ((λ e. cc), ((λ e. cc), ((λ e. cc), ((λ e. cc), ((λ e. cc), ((λ e. cc), ((λ e. cc), ((λ e. cc), ((λ e. cc), ((λ e. cc), ((λ e. cc), ((λ e. cc), ((λ e. cc), ((λ e. cc), ((λ e. cc), ((λ e. cc), ((λ e. cc), ((λ e. cc), ((λ e. cc), ((λ e. cc), ((λ e. cc), ((λ e. cc), ((λ e. cc), ((λ e. cc), ((λ e. cc), ((λ e. cc), ((λ e. cc), tt)))))))))))))))))))))))))))))))))))))

--     program   // x
--          run:{}
--              ( ( 1 + 2 ) : Int )
abbrev pub format_front : List Tok
format_front = tok kind.KwProgram 1 1 ∷ tok kind.Nl 1 15 ∷ tok kind.In 2 6 ∷ tok kind.KwRun 2 6 ∷ tok kind.SymColon 2 9 ∷ tok kind.SymOpenBrace 2 10 ∷ tok kind.SymCloseBrace 2 11 ∷ tok kind.Nl 2 12 ∷ tok kind.In 3 10 ∷ tok kind.SymOpenParen 3 10 ∷ tok kind.SymOpenParen 3 12 ∷ tok (kind.Number (pos 1)) 3 14 ∷ tok kind.SymPlus 3 16 ∷ tok (kind.Number (pos 2)) 3 18 ∷ tok kind.SymCloseParen 3 20 ∷ tok kind.SymColon 3 22 ∷ tok kind.KwInt 3 24 ∷ tok kind.SymCloseParen 3 28 ∷ tok kind.Nl 3 29 ∷ tok kind.Out 4 1 ∷ tok kind.Out 4 1 ∷ []

abbrev pub format_tokens : List Tok
format_tokens = format_front ++ tok kind.End 4 1 ∷ []

abbrev pub format_tree : List ItemTree
format_tree = program_item (at 1 1) [] [] [] (at 2 6) [] (long (more_stmts (run (value (ascribe (binary op.Plus (number (pos 1) (at 3 14)) (number (pos 2) (at 3 18)) (at 3 16)) (types.Int (at 3 24)) (at 3 10)))) no_stmts)) ∷ []

format_read : p_file (length format_tokens + 2) format_tokens ≡ Yes format_tree []
unfolding items item type_of pure_of with_params program_of p_file inside_lines inside_of grant_of init_of define_of line_of line_with use_of members_inside member_of method_member effect_member part method_of field_of tail block_of stmt assign_of val_of untyped_val typed_val untyped_rhs rhs expr_line if_of branch_rest indented_block literal_of parts_inside p_rhs atomic built built1 several_arguments one_argument parens ascription call_part post minus bang unary product sum compare conj disj choice_rest choice_of p_unary atom set member_set object_rest object type_use param effect signature
format_read = refl

pub format_spelled : Spells format_tokens format_tree
format_spelled = spelled_by format_tokens format_tree (record { front = format_front; last = tok kind.End 4 1; parts = refl; is = refl; before = format_no_end }) format_read
  where
    format_no_end : NoEnd format_front
    format_no_end = ((λ e. cc), ((λ e. cc), ((λ e. cc), ((λ e. cc), ((λ e. cc), ((λ e. cc), ((λ e. cc), ((λ e. cc), ((λ e. cc), ((λ e. cc), ((λ e. cc), ((λ e. cc), ((λ e. cc), ((λ e. cc), ((λ e. cc), ((λ e. cc), ((λ e. cc), ((λ e. cc), ((λ e. cc), ((λ e. cc), ((λ e. cc), tt)))))))))))))))))))))

-- ---- how they are printed

digit_1 : decimal 1 ≡ codes "1"
digit_1 = decimal-digits_of 1 (lit< tt) (lit< tt)

digit_2 : decimal 2 ≡ codes "2"
digit_2 = decimal-digits_of 2 (lit< tt) (lit< tt)

digit_3 : decimal 3 ≡ codes "3"
digit_3 = decimal-digits_of 3 (lit< tt) (lit< tt)

digit_5 : decimal 5 ≡ codes "5"
digit_5 = decimal-digits_of 5 (lit< tt) (lit< tt)

hello_printed : canonical_form hello_tree ≡ codes "program\n  grant console: Console\n  run: {console.Out}\n    console.write(\"hello\\n\")\n"
hello_printed = refl

logger_printed : canonical_form logger_tree ≡ codes "type Logger\n  effect Log\n  def log(t: String): {Log} Unit\n\nresource module logger(disk: Folder): Logger\n  effect Log = {disk.Append}\n  def log(t: String): {Log} Unit = disk.append(\"log\", t)\n"
logger_printed = refl

quiet_printed : canonical_form quiet_tree ≡ codes "type Quiet\n  effect Log\n  effect Tick <= {Log}\n  effect Idle <= {}\n"
quiet_printed = refl

pick_printed : canonical_form pick_tree ≡ codes "resource module pick(): Pick\n  def pick(c: Bool, x: B, y: A): {} A = if c then x else y\n"
pick_printed = refl

format_printed : canonical_form format_tree ≡ codes "program\n  run: {}\n    (1 + 2 : Int)\n"
format_printed = rw (digit_1, digit_2) refl

-- `-(5.f())`, `(-1).f()`, `a - -1`, `(a < b) == c` and `--3`
negated_call : expr_text (negate (call (number (pos 5) (at 1 3)) (named (codes "f") 1 5) none) (at 1 1)) ≡ codes "-(5.f())"
negated_call = rw digit_5 refl

called_number : expr_text (call (number (negsuc 0) (at 1 2)) (named (codes "f") 1 6) none) ≡ codes "(-1).f()"
called_number = rw digit_1 refl

minus_one : expr_text (binary op.Minus (name (named (codes "a") 1 1)) (number (negsuc 0) (at 1 5)) (at 1 3)) ≡ codes "a - -1"
minus_one = rw digit_1 refl

compared : expr_text (binary op.Equal (binary op.Less (name (named (codes "a") 1 2)) (name (named (codes "b") 1 6)) (at 1 4)) (name (named (codes "c") 1 12)) (at 1 9)) ≡ codes "(a < b) == c"
compared = refl

negated_number : expr_text (negate (number (negsuc 2) (at 1 2)) (at 1 1)) ≡ codes "--3"
negated_number = rw digit_3 refl

-- ---- nodes before a place: in row "format" all three, and none before the first mark
format_nodes : count_before format_tree (at 3 18) ≡ 3
format_nodes = refl

no_nodes : count_before format_tree (at 3 10) ≡ 0
no_nodes = refl

-- ---- where reading stops: the end of the line behind `run: {`, and a member's `<=` without a set or another sign in its place
abbrev open_set : List Tok
open_set = tok kind.KwProgram 1 1 ∷ tok kind.Nl 1 8 ∷ tok kind.In 2 3 ∷ tok kind.KwRun 2 3 ∷ tok kind.SymColon 2 6 ∷ tok kind.SymOpenBrace 2 8 ∷ tok kind.Nl 2 9 ∷ tok kind.Out 3 1 ∷ tok kind.End 3 1 ∷ []

open_set_stops : p_file (length open_set + 2) open_set ≡ No (tok kind.Nl 2 9 ∷ tok kind.Out 3 1 ∷ tok kind.End 3 1 ∷ [])
unfolding items item type_of pure_of with_params program_of p_file inside_lines inside_of grant_of init_of define_of line_of line_with use_of members_inside member_of method_member effect_member part method_of field_of tail block_of stmt assign_of val_of untyped_val typed_val untyped_rhs rhs expr_line if_of branch_rest indented_block literal_of parts_inside p_rhs atomic built built1 several_arguments one_argument parens ascription call_part post minus bang unary product sum compare conj disj choice_rest choice_of p_unary atom set member_set object_rest object type_use param effect signature
open_set_stops = refl

-- a type whose one member goes on by these tokens behind its name
abbrev of_member : List Tok → List Tok
of_member ts = tok kind.KwType 1 1 ∷ tok (kind.Name (codes "Quiet")) 1 6 ∷ tok kind.Nl 1 11 ∷ tok kind.In 2 3 ∷ tok kind.KwEffect 2 3 ∷ tok (kind.Name (codes "Tick")) 2 10 ∷ ts

--       effect Tick <=
abbrev no_bound : List Tok
no_bound = tok kind.Nl 2 17 ∷ tok kind.Out 3 1 ∷ tok kind.End 3 1 ∷ []

abbrev no_bound_tokens : List Tok
no_bound_tokens = of_member (tok kind.SymLessEqual 2 15 ∷ no_bound)

no_bound_stops : p_file (length no_bound_tokens + 2) no_bound_tokens ≡ No no_bound
unfolding items item type_of pure_of with_params program_of p_file inside_lines inside_of grant_of init_of define_of line_of line_with use_of members_inside member_of method_member effect_member part method_of field_of tail block_of stmt assign_of val_of untyped_val typed_val untyped_rhs rhs expr_line if_of branch_rest indented_block literal_of parts_inside p_rhs atomic built built1 several_arguments one_argument parens ascription call_part post minus bang unary product sum compare conj disj choice_rest choice_of p_unary atom set member_set object_rest object type_use param effect signature
no_bound_stops = refl

--       effect Tick < {}
abbrev less_alone : List Tok
less_alone = tok kind.SymLess 2 15 ∷ tok kind.SymOpenBrace 2 17 ∷ tok kind.SymCloseBrace 2 18 ∷ tok kind.Nl 2 19 ∷ tok kind.Out 3 1 ∷ tok kind.End 3 1 ∷ []

abbrev less_alone_tokens : List Tok
less_alone_tokens = of_member less_alone

less_alone_stops : p_file (length less_alone_tokens + 2) less_alone_tokens ≡ No less_alone
unfolding items item type_of pure_of with_params program_of p_file inside_lines inside_of grant_of init_of define_of line_of line_with use_of members_inside member_of method_member effect_member part method_of field_of tail block_of stmt assign_of val_of untyped_val typed_val untyped_rhs rhs expr_line if_of branch_rest indented_block literal_of parts_inside p_rhs atomic built built1 several_arguments one_argument parens ascription call_part post minus bang unary product sum compare conj disj choice_rest choice_of p_unary atom set member_set object_rest object type_use param effect signature
less_alone_stops = refl
