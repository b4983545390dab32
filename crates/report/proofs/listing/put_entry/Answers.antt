use Rattle.std.proofs.Common.{◌≡◌, ℕ, ◌+◌, List, [], ◌∷◌, ◌++◌, length, codes, decimal, ap, ◌∙◌, arith, rules}
use Rattle.std.proofs.lemmas.List.{append_assoc}
use Rattle.std.proofs.lemmas.List.Edits.{length-between}
use Rattle.std.proofs.lemmas.Result.{on_ok_weaker}
use Rattle.bundle.specs.Layout.{start, size}
use Rattle.report.specs.Columns.{left, right}
use Rattle.report.proofs.listing.put_entry.Goals as goal

-- the line, from what the entry says
written : (k w : ℕ) (n : List ℕ) (s z : ℕ) → List ℕ
written k w n s z = right 3 (decimal k) ++ codes " " ++ left w n ++ codes " " ++ right 5 (decimal s) ++ codes " " ++ right 5 (decimal z) ++ (10 ∷ [])

same_line : (k w : ℕ) {m n : List ℕ} {r s y z : ℕ} → m ≡ n → r ≡ s → y ≡ z → written k w m r y ≡ written k w n s z
same_line k w a b e = cc

pub returns : goal.returns
unfolding written
returns c =
    let page = c.args.page.now.bytes.items in
    let entry = c.args.entry.now in
    on_ok_weaker c.put-4.result (λ h b at.
    let bytes = b.bytes.now in
    let long : length entry.text.now ≡ size bytes c.args.k =
    ap length at.holds ∙ length-between bytes (start bytes c.args.k) (start bytes c.args.k + size bytes c.args.k) at.lies.within ∙ (omega arith) in
    let p : c.put-4.new.self.bytes.items ≡ page ++ written c.args.k c.args.width entry.name.now entry.start (length entry.text.now) = search (rules, append_assoc) in
    p ∙ ap (λ l. page ++ l) (same_line c.args.k c.args.width at.named at.starts long)) c.put-4.ensures
