use Rattle.std.proofs.Common.{◌++◌, ◌∷◌, [], ap, codes, refl}
use Rattle.dv_bag.specs.Words.{fault_word}
use Rattle.dv_time.specs.Time.{time_text}
use Rattle.dv_lines.proofs.Behind.{put_behind}
use Rattle.dv_lines.proofs.Unknown.{end_unknown}
use Rattle.dv_lines.proofs.line.FaultLine.put_unknown.Goals as goal

pub returns-clause-text : goal.returns-clause-text
returns-clause-text c =
    let line = c.args.self.now in
    let said = codes "fault " ++ fault_word line.fault in
    let back = said ++ (10 ∷ []) in
    put_behind c.put_byte.result c.args.to.now _ _ (time_text line.stamp.now) (32 ∷ 32 ∷ back) _ 0 c.in_ok-at.at c.in_ok-at.ensures.text
    (ap (λ t. time_text line.stamp.now ++ (32 ∷ 32 ∷ (said ++ t))) (end_unknown line.sent.now))
    (put_behind c.put_byte.result _ _ _ (32 ∷ 32 ∷ []) back (32 ∷ 32 ∷ back) c.in_ok-at.at c.in_ok-at-2.at c.in_ok-at-2.ensures.text refl
    (put_behind c.put_byte.result _ _ _ said (10 ∷ []) back c.in_ok-at-2.at c.in_ok-at-3.at c.in_ok-at-3.ensures.text refl
    c.put_byte.ensures.text))
