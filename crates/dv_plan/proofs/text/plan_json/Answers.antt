use Rattle.std.proofs.Common.{List, ◌++◌, ap, codes, map, string_bytes}
use Rattle.dv_bag.specs.Responses.{ticks_of}
use Rattle.dv_share.specs.Links.{links_of}
use Rattle.dv_share.specs.declared.link.Link.{Link}
use Rattle.dv_plan.specs.Texts.{links_text, paths_text, processes_text}
use Rattle.dv_plan.specs.declared.text.Owner.TheVariants.{Root, Component}
use Rattle.dv_plan.proofs.Texts.{behind, from_empty, here}
use Rattle.dv_plan.proofs.text.plan_json.Goals as goal

pub returns : goal.returns
returns g c =
    let names = g.N.Names.names c.args.names.now in
    let groups = c.args.groups.now in
    let entries = λ (ls : List Link). links_text names Root Component 0 (links_of ls) in
    let exits = λ (ls : List Link). links_text names Component Root 0 (links_of ls) in
    let direct = λ (ls : List Link). links_text names Component Component 0 (links_of ls) in
    let from_processes = processes_text names groups (map ticks_of c.args.responses.now) 0 groups.processes ++ codes "}" in
    let from_links = direct c.args.links.now.direct.items ++ (codes ",\"processes\":" ++ from_processes) in
    let from_exits = exits c.args.links.now.exits.items ++ (codes ",\"links\":" ++ from_links) in
    let from_entries = entries c.args.links.now.entrances.items ++ (codes ",\"exits\":" ++ from_exits) in
    let paths = paths_text names 0 names.components in
    let from_paths = paths ++ (codes ",\"entries\":" ++ from_entries) in
    from_empty (string_bytes c.new-text.result) (codes "{\"components\":" ++ from_paths)
    (behind (string_bytes c.new-text.result) (codes "{\"components\":") from_paths c.in_ok-push_str.ensures.bytes
    (behind (string_bytes c.push_str.new.self) paths (codes ",\"entries\":" ++ from_entries) c.in_ok-push_paths.ensures
    (behind (string_bytes c.push_paths.new.text) (codes ",\"entries\":") from_entries c.in_ok-push_str-2.ensures.bytes
    (behind (string_bytes c.push_str-2.new.self) (entries c.args.links.now.entrances.items) (codes ",\"exits\":" ++ from_exits)
    (here (string_bytes c.push_str-2.new.self) (entries c.deref.result.now) (entries c.args.links.now.entrances.items)
    c.in_ok-push_links.ensures (ap entries c.deref.ensures.value))
    (behind (string_bytes c.push_links.new.text) (codes ",\"exits\":") from_exits c.in_ok-push_str-3.ensures.bytes
    (behind (string_bytes c.push_str-3.new.self) (exits c.args.links.now.exits.items) (codes ",\"links\":" ++ from_links)
    (here (string_bytes c.push_str-3.new.self) (exits c.deref-2.result.now) (exits c.args.links.now.exits.items)
    c.in_ok-push_links-2.ensures (ap exits c.deref-2.ensures.value))
    (behind (string_bytes c.push_links-2.new.text) (codes ",\"links\":") from_links c.in_ok-push_str-4.ensures.bytes
    (behind (string_bytes c.push_str-4.new.self) (direct c.args.links.now.direct.items) (codes ",\"processes\":" ++ from_processes)
    (here (string_bytes c.push_str-4.new.self) (direct c.deref-3.result.now) (direct c.args.links.now.direct.items)
    c.in_ok-push_links-3.ensures (ap direct c.deref-3.ensures.value))
    (behind (string_bytes c.push_links-3.new.text) (codes ",\"processes\":") from_processes c.in_ok-push_str-5.ensures.bytes
    (behind (string_bytes c.push_str-5.new.self) (processes_text names groups (map ticks_of c.args.responses.now) 0 groups.processes)
    (codes "}") c.in_ok-push_processes.ensures c.in_ok-push_str-6.ensures.bytes))))))))))
    c.new-text.ensures.bytes
