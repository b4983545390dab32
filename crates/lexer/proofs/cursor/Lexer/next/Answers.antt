use Rattle.std.proofs.Common.{◌≡◌, ◌-◌, Some, None, Err, sym, arith, rules}
use Rattle.std.proofs.lemmas.List.{take_rest}
use Rattle.std.proofs.lemmas.Grind.{common_steps}
use Rattle.lexer.specs.Steps.{Fails}
use Rattle.lexer.proofs.Gapless.{gap_forward}
use Rattle.lexer.proofs.Rests.{stands_moves}
use Rattle.lexer.proofs.cursor.Lexer.next.Goals as goal

pub returns-in_err-token-clause-step : goal.returns-in_err-token-clause-step
returns-in_err-token-clause-step c =
    let s = c.args.self.now.text.now in
    let i = c.skip-first.result in
    let skip = c.skip-first.ensures in
    let none : c.token.result ≡ None = grind (arith, common_steps) in
    let gives : c.from_residual.result ≡ Err (record { place = record { entry = c.args.self.now.entry; byte = i } }) = grind (arith, common_steps) in
    let told = rw none at c.token.ensures.none in
    let fails : Fails s c.args.self.now.end i = record {
      gap = skip.gap;
      within = omega arith;
      no_separator = skip.all;
      no_token = λ j t h. told (j - i) t (stands_moves s _ i 0 (sym (take_rest s i)) skip.within (omega arith) j (j - i) t (omega arith) h);
    } in
    rw gives (search (rules, fails))

pub returns-clause-forward : goal.returns-clause-forward
returns-clause-forward c =
    let got : c.token.result ≡ Some (c.in_ok-token.token, c.in_ok-token.len) = grind (arith, common_steps) in
    omega (arith, gap_forward c.skip-first.ensures.gap, (rw got at c.token.ensures.some).after)

pub returns-clause-step : goal.returns-clause-step
returns-clause-step c =
    let s = c.args.self.now.text.now in
    let i = c.skip-first.result in
    let skip = c.skip-first.ensures in
    let got : c.token.result ≡ Some (c.in_ok-token.token, c.in_ok-token.len) = grind (arith, common_steps) in
    record {
      gap = skip.gap;
      stands = stands_moves _ s 0 i (take_rest s i) (omega arith) skip.within c.in_ok-token.len _ _ (omega arith) (rw got at c.token.ensures.some);
    }
