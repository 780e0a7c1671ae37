-- What is put into the bags, one list of deliveries after the other.
use Rattle.std.proofs.Common.{◌∙◌, ◌++◌, [], List, refl, sym, subst, arith}
use Rattle.std.proofs.lemmas.List.{append-nil, append_assoc}
use Rattle.dv_conservative.specs.Links.{Delivery as Meant}
use Rattle.dv_share.specs.Received.{AreGathered, HasTaken, IsReady, ReceivedOf}
use Rattle.dv_share.specs.declared.tables.Member.{Member}

pub taken_none : (ms : List Member) (r : ReceivedOf) → HasTaken ms [] r r
taken_none ms r = record {
  room = refl;
  gathered = λ es h. subst (λ (ds : List Meant). AreGathered ms ds r.items) (sym (append-nil es)) h;
  among = λ p here. here;
  touched = λ ps h. h;
}

pub taken_both : (ms : List Member) (ds es : List Meant) (a b c : ReceivedOf) → HasTaken ms ds a b → HasTaken ms es b c
    → HasTaken ms (ds ++ es) a c
taken_both ms ds es a b c one two = record {
  room = two.room ∙ one.room;
  gathered = λ fs h.
      subst (λ (gs : List Meant). AreGathered ms gs c.items) (append_assoc fs ds es)
      (two.gathered (fs ++ ds) (one.gathered fs h));
  among = λ p here. two.among p (one.among p here);
  touched = λ ps h. two.touched ps (one.touched ps h);
}

pub ready_after : (ms : List Member) (ds : List Meant) (a b : ReceivedOf) → HasTaken ms ds a b → IsReady ms a → IsReady ms b
ready_after ms ds a b one ready = record {
  room = omega (arith, ready.room, one.room);
  gathered = (ready.gathered.0 ++ ds, one.gathered ready.gathered.0 ready.gathered.1);
}
