pub mod Turns
pub mod Told
pub mod Cut
pub mod Rises
pub mod Served
pub mod Laws
pub mod Hosts
