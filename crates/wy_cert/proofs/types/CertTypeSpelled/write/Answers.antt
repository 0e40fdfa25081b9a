use Rattle.std.proofs.Common.{[], ◌∷◌, ◌∙◌, ap, arith}
use Rattle.std.proofs.lemmas.Result.{IfErr-weaker, on_ok_weaker}
use Rattle.wy_spelling.specs.Spelling.{AreSpelled, list_bytes, number_bytes}
use Rattle.wy_spelling.proofs.Unwritten.{unwritten_whole}
use Rattle.wy_cert.specs.Spelled.{IsSetSpelled, IsTypeSpelled, set_bytes, type_bytes}
use Rattle.wy_cert.specs.declared.certificate.CertType.TheVariants as typ
use Rattle.wy_cert.proofs.TypeFronts.{form_of}
use Rattle.wy_cert.proofs.Written.{form_written, three_written}
use Rattle.wy_cert.proofs.types.CertTypeSpelled.write.Goals as goal

pub returns-in_ok-write-in-Named-clause-written : goal.returns-in_ok-write-in-Named-clause-written
returns-in_ok-write-in-Named-clause-written c =
    let out = c.args.out.now.items in
    let form = form_written out c.push.new.self.items _ 4 c.in_ok-push.ensures.items (c.form_of.ensures ∙ ap form_of c.in-Named.is) in
    let decl = c.in_ok-write-in-Named.ensures.written in
    rw c.in-Named.is (on_ok_weaker c.write-in-Named.result
    (λ members. ((decl.0, members.0), three_written out _ _ _ (4 ∷ []) (number_bytes c.in-Named.decl) (list_bytes set_bytes c.in-Named.members) form decl.1 members.1))
    c.write-in-Named.ensures.written)

pub returns-in_ok-write-in-Named-clause-long : goal.returns-in_ok-write-in-Named-clause-long
returns-in_ok-write-in-Named-clause-long c =
    let d = c.in-Named.decl in
    let es = c.in-Named.members in
    rw c.in-Named.is (IfErr-weaker c.write-in-Named.result _ _
    (λ error long. unwritten_whole (AreSpelled IsSetSpelled) (list_bytes set_bytes) IsTypeSpelled type_bytes es (typ.Named d es) error (λ is. is.1) (omega arith) long)
    c.write-in-Named.ensures.long)

pub returns-in_ok-write-in-At-clause-written : goal.returns-in_ok-write-in-At-clause-written
returns-in_ok-write-in-At-clause-written c =
    let out = c.args.out.now.items in
    let form = form_written out c.push.new.self.items _ 5 c.in_ok-push.ensures.items (c.form_of.ensures ∙ ap form_of c.in-At.is) in
    let decl = c.in_ok-write-in-At.ensures.written in
    rw c.in-At.is (on_ok_weaker c.write-in-At-2.result
    (λ bound. ((decl.0, bound.0), three_written out _ _ _ (5 ∷ []) (number_bytes c.in-At.decl) (set_bytes c.in-At.bound) form decl.1 bound.1))
    c.write-in-At-2.ensures.written)

pub returns-in_ok-write-in-At-clause-long : goal.returns-in_ok-write-in-At-clause-long
returns-in_ok-write-in-At-clause-long c =
    let d = c.in-At.decl in
    let e = c.in-At.bound in
    rw c.in-At.is (IfErr-weaker c.write-in-At-2.result _ _
    (λ error long. unwritten_whole IsSetSpelled set_bytes IsTypeSpelled type_bytes e (typ.At d e) error (λ is. is.1) (omega arith) long)
    c.write-in-At-2.ensures.long)
