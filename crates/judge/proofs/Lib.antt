mod Laws
mod Absent
