use Rattle.std.proofs.Common.{◌++◌, codes, string_bytes}
use Rattle.dv_plan.specs.Texts.{members_text, response_text}
use Rattle.dv_plan.proofs.Texts.{behind}
use Rattle.dv_plan.proofs.text.push_process.Goals as goal

pub returns : goal.returns
returns g c =
    let members = members_text (g.N.Names.names c.args.names.now) 0 c.args.members.now in
    let response = response_text c.args.ticks in
    behind (string_bytes c.args.text.now) (codes "{\"components\":") (members ++ (codes ",\"response\":" ++ (response ++ codes "}")))
    c.in_ok-push_str.ensures.bytes
    (behind (string_bytes c.push_str.new.self) members (codes ",\"response\":" ++ (response ++ codes "}")) c.in_ok-push_members.ensures
    (behind (string_bytes c.push_members.new.text) (codes ",\"response\":") (response ++ codes "}") c.in_ok-push_str-2.ensures.bytes
    (behind (string_bytes c.push_str-2.new.self) response (codes "}") c.in_ok-push_response.ensures c.in_ok-push_str-3.ensures.bytes)))
