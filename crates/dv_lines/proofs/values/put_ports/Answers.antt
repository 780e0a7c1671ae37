use Rattle.std.proofs.Common.{◌≤◌, ◌<◌, ◌+◌, ◌-◌, ◌++◌, [], List, ℕ, ap, ◌∙◌, sym, inl, length, drop, get_or, pos, take}
use Rattle.std.proofs.Common.{◌≡◌, ◌∷◌, inr, zero, suc, refl, arith, map}
use Rattle.std.proofs.lemmas.Option.{get_or_from_slice_get, slice_get-get_or}
use Rattle.std.proofs.lemmas.Bool.{cases_lt}
use Rattle.std.proofs.lemmas.List.{drop_more, get_or_default, length-map, take_rest}
use Rattle.dv_bag.specs.Bag.{bag_at}
use Rattle.dv_bag.specs.Sent.{AreWithin, pairs_at}
use Rattle.dv_bag.specs.declared.sent.Sending.{Sending}
use Rattle.dv_text.proofs.Sent.{nothing_between}
use Rattle.dv_lines.specs.declared.pieces.Word.{Word}
use Rattle.dv_lines.specs.Words.{sent_left, word_text}
use Rattle.dv_lines.proofs.Walks.{copies_there, left_at, no_words_left, nothing_left, pairs_from, pairs_more, port_step}
use Rattle.dv_lines.proofs.Walks.{ports_done, ports_passed, rise_at, some_there, within_at}
use Rattle.dv_lines.proofs.values.put_ports.Goals.{then-sending-next+in-Some+in_ok-at, else-sending-next}
use Rattle.dv_lines.proofs.values.put_ports.Goals as goal

abbrev no_sending : Sending
no_sending = record { port = 0; value = pos 0; copies = 0 }

abbrev no_word : Word
no_word = record { start = 0; length = 0; head = [] }

-- the sending at an index, whatever stands past the end
port_is : (ss : List Sending) (i : ℕ) → i < length ss → (d : Sending) → (get_or ss i d).port ≡ (get_or ss i no_sending).port
port_is ss i early d =
    ap (λ (s : Sending). s.port) (get_or_from_slice_get ss i (get_or ss i no_sending) d (slice_get-get_or ss i no_sending early))

port_within : (ports : ℕ) (ss : List Sending) → AreWithin ports ss → (i : ℕ) (d : Sending) → i < length ss → (get_or ss i d).port < ports
port_within ports [] within i d lt = absurd (omega arith)
port_within ports (s ∷ ss) within zero d lt = within.0
port_within ports (s ∷ ss) within (suc i) d lt = port_within ports ss within.3 i d (omega (arith, lt))

-- the word at an index among the texts of words
text_there : (bytes : List ℕ) (words : List Word) (k : ℕ) (w d : Word) → k < length words → w ≡ get_or words k d →
    get_or (map (word_text bytes) words) k [] ≡ word_text bytes w
text_there bytes [] k w d lt is = absurd (omega arith)
text_there bytes (x ∷ words) zero w d lt is = ap (word_text bytes) (sym is)
text_there bytes (x ∷ words) (suc k) w d lt is = text_there bytes words k w d (omega (arith, lt)) is

-- no port that is left has values
pub returns-in_default-clause-text : goal.returns-in_default-clause-text
returns-in_default-clause-text c =
    let words = map (word_text c.args.bytes.now) c.args.words.now in
    let bags = c.args.sent.now in
    let ss = c.as_slice-sendings.result.now in
    let i = c.loop-index.index in
    let next = c.loop-index.next in
    let port = (get_or ss i no_sending).port in
    let sent = c.as_slice-sendings.ensures in
    let is_first = c.loop-index.is_first in
    let past : length words ≤ port =
    omega (arith, length-map c.args.words.now (word_text c.args.bytes.now), c.in_default.ensures.lookup.3) in
    let same : next + (port - next) ≡ port = omega (arith, c.if-sending-next.true) in
    let passed = ports_passed is_first words bags (port - next) next
    (λ x le lt. nothing_between ss sent.order bags sent.bags i next x c.loop-index.invariant.before le
    (λ d early. let gap = port_is ss i early d in omega (arith, lt, same, gap))) in (
      c.loop-index.invariant.at,
      ports_done _ _ (left_at is_first words bags next)
          (passed ∙ ap (left_at is_first words bags) same ∙ no_words_left is_first words bags port past) c.loop-index.invariant.text,
    )

pub put_port-requires-clause-order : goal.put_port-requires-clause-order
put_port-requires-clause-order c =
    let ss = c.as_slice-sendings.result.now in
    let i = c.loop-index.index in
    rw (take_rest ss i) (rise_at 0 i no_sending ss c.as_slice-sendings.ensures.order c.loop-index-test.true)

pub put_port-requires-clause-some : goal.put_port-requires-clause-some
put_port-requires-clause-some c =
    let ss = c.as_slice-sendings.result.now in
    let i = c.loop-index.index in
    let ports = length c.args.sent.now in
    let within = within_at ports i ss c.as_slice-sendings.ensures.within in
    rw (take_rest ss i) (λ k d lt. copies_there ports k d (drop i ss) within lt)

pub loop-index-preserved : goal.loop-index-preserved
loop-index-preserved c =
    let words = map (word_text c.args.bytes.now) c.args.words.now in
    let bags = c.args.sent.now in
    let ss = c.as_slice-sendings.result.now in
    let i = c.loop-index.index in
    let next = c.loop-index.next in
    let port = (get_or ss i no_sending).port in
    let sent = c.as_slice-sendings.ensures in
    let early = c.loop-index-test.true in
    let is_first = c.loop-index.is_first in
    let held = c.loop-index.invariant in
    let left = left_at is_first words bags in
    elim c.if-sending-next.branch [
      | then-sending-next+in-Some+in_ok-at w ↦
          let same : next + (port - next) ≡ port = omega (arith, w.if-sending-next.true) in
          let passed = ports_passed is_first words bags (port - next) next
          (λ x le lt. nothing_between ss sent.order bags sent.bags i next x held.before le
          (λ d within. let gap = port_is ss i within d in omega (arith, lt, same, gap))) in
          let found = w.in-Some.ensures.lookup in
          let within_bags : port < length bags = port_within (length bags) ss sent.within i no_sending early in
          let within_words : port < length words = omega (arith, length-map c.args.words.now (word_text c.args.bytes.now), found.3.0) in
          let word = word_text c.args.bytes.now w.in-Some.word.now in
          let there = text_there c.args.bytes.now c.args.words.now port w.in-Some.word.now no_word found.3.0
          (found.1 ∙ get_or_default c.args.words.now port w.in-Some.word.now no_word found.3.0) in
          let from = pairs_from port i ss
          (λ k d lt within. let low = held.before k d lt in omega (arith, low, w.if-sending-next.true)) in
          let bag = sent.bags port in
          let pairs = ap (pairs_at port) (take_rest ss i) ∙ from ∙ bag in
          let some = some_there (bag_at bags port) (pairs_at port (drop (i + 1) ss)) (get_or ss i no_sending).value
          (get_or ss i no_sending).copies (sym (from ∙ bag) ∙ pairs_more port i no_sending ss early refl)
          (copies_there (length bags) i no_sending ss sent.within early) in
          let line = take c.loop-index.at c.loop-index.to in
          let opened =
          ap (λ ns. sent_left is_first ns (drop port bags)) (drop_more words port [] within_words)
          ∙ ap (sent_left is_first (get_or words port [] ∷ drop (port + 1) words)) (drop_more bags port [] within_bags)
          ∙ ap (λ t. sent_left is_first (t ∷ drop (port + 1) words) (bag_at bags port ∷ drop (port + 1) bags)) there in
          let before = ap (λ (t : List ℕ). line ++ t) (sym (passed ∙ ap left same ∙ opened)) ∙ held.text in
          let put = w.in_ok-at.ensures.text in
          rw (w.to-is, w.at-is, w.is_first-is, w.next-is) record {
            size = omega (arith, held.size, w.put_port.ensures.size);
            at = put.0;
            before = λ k d lt. elim (cases_lt k i) [
              | inl less ↦
                  let low = held.before k d less in omega (arith, low, w.if-sending-next.true)
              | inr ge ↦
                  let this : i ≡ k = omega (arith, lt, ge) in
                  let here = port_is ss i early d in
                  let there = ap (λ (j : ℕ). (get_or ss j d).port) this in
                  omega (arith, here, there)
            ];
            text =
                port_step line _ _ is_first word (drop (port + 1) words) (bag_at bags port) (drop (port + 1) bags) some before
                (rw (sym pairs) put.1);
          }
      | else-sending-next w ↦ rw (w.to-is, w.at-is, w.is_first-is, w.next-is) record {
        size = held.size;
        at = held.at;
        before = λ k d lt. elim (cases_lt k i) [
          | inl less ↦ held.before k d less
          | inr ge ↦
              let this : i ≡ k = omega (arith, lt, ge) in
              let here = port_is ss i early d in
              let there = ap (λ (j : ℕ). (get_or ss j d).port) this in
              omega (arith, here, there, w.if-sending-next.false)
        ];
        text = held.text;
      }
    ]

pub returns-clause-text : goal.returns-clause-text
returns-clause-text c =
    let words = map (word_text c.args.bytes.now) c.args.words.now in
    let bags = c.args.sent.now in
    let ss = c.as_slice-sendings.result.now in
    let i = c.loop-index.index in
    let sent = c.as_slice-sendings.ensures in
    let none = nothing_left c.loop-index.is_first words bags c.loop-index.next
    (λ x le. nothing_between ss sent.order bags sent.bags i c.loop-index.next x c.loop-index.invariant.before le
    (λ d early. absurd (omega (arith, early, c.loop-index-test.false)))) in
    (c.loop-index.invariant.at, ports_done _ _ _ none c.loop-index.invariant.text)
