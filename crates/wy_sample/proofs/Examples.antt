-- Samples and a summary, byte by byte.
use Rattle.std.proofs.Common.{codes, ◌≡◌, ◌++◌, refl}
use Rattle.std.specs.Fmt.{digits}
use Rattle.wy_sample.specs.Sample.{sample_text, summary_line}

one_module : sample_text 1 ≡
    codes "type Step\n  effect E\n  def go(t: Int): {E} Int\n" ++
    codes "resource module m1(c: Console): Step\n  effect E = {c.Out}\n  def go(t: Int): {E} Int\n    c.write(\"m1\\n\")\n    t + 1\n" ++
    codes "program\n  grant console: Console\n  instance x1 = m1(console)\n" ++
    codes "  run: {console.Out, x1.E}\n    console.write(text_show(x1.go(0)) ++ \"\\n\")\n"
unfolding digits
one_module = refl

three_modules : sample_text 3 ≡
    codes "type Step\n  effect E\n  def go(t: Int): {E} Int\n" ++
    codes "resource module m1(c: Console): Step\n  effect E = {c.Out}\n  def go(t: Int): {E} Int\n    c.write(\"m1\\n\")\n    t + 1\n" ++
    codes "resource module m2(s: Step): Step\n  effect E = {s.E}\n  def go(t: Int): {E} Int = s.go(t) + 2\n" ++
    codes "resource module m3(s: Step): Step\n  effect E = {s.E}\n  def go(t: Int): {E} Int = s.go(t) + 3\n" ++
    codes "program\n  grant console: Console\n  instance x1 = m1(console)\n  instance x2 = m2(x1)\n  instance x3 = m3(x2)\n" ++
    codes "  run: {console.Out, x3.E}\n    console.write(text_show(x3.go(0)) ++ \"\\n\")\n"
unfolding digits
three_modules = refl

three_summed_up : summary_line 3 7 ≡ codes "sample 3: instances 3, bodies 7\n"
unfolding digits
three_summed_up = refl
