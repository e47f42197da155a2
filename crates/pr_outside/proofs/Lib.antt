mod FetchLaws
mod Newest
mod Parts
mod StreamLaws
mod RoomLaws
